pub use Rattle.std.proofs.Common.{Bool, Err, List, None, Ok, Option, Some, [], ap, arith, cond, false, get_or, length, map}
pub use Rattle.std.proofs.Common.{refl, string_bytes, subst, suc, sym, take, true, zero, ℕ, ◌++◌, ◌+◌, ◌-◌, ◌<◌, ◌==◌, ◌↔◌, ◌∙◌, ◌∷◌, ◌≡◌, ◌≤◌, append-nil, inl, inr}
pub use Rattle.std.proofs.lemmas.Bool.{eqb-true, cases_eq, false≢true}
pub use Rattle.std.proofs.lemmas.List.{take_all, take_more}
pub use Rattle.std.specs.List.{AllZip}
pub use Rattle.fbl_input.proofs.Common.{PutsOut}
pub use Rattle.fbl_trace.specs.declared.trace.Determinant.{Determinant}
pub use Rattle.fbl_input.proofs.Inputs.{over_input}
pub use Rattle.fbl_input.proofs.Outputs.{puts_front, puts_none, puts_right, puts_text}
pub use Rattle.fbl_records.specs.Dumps.{IsDumpFault, IsDumpOf}
pub use Rattle.fbl_verdicts.specs.Lines.{audit_lines}
pub use Rattle.fbl_verdicts.specs.Texts.{IsAuditText}
