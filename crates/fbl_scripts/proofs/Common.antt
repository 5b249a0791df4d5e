pub use Rattle.fbl_input.proofs.Common.{Err, IfSome, List, None, Ok, Option, Result, Some, [], ap, append_assoc, arith, cond, drop, get_or, inr, length, map, option_and_then, refl, string_bytes, suc, sym, ℕ, ◌++◌, ◌+◌, ◌<◌, ◌∙◌, ◌∷◌, ◌≡◌}
pub use Rattle.fbl_input.proofs.Common.{Data, Value, count_shape, field, name_of, number_within, or_fault, value_of_input, view, ◌>>=◌}
pub use Rattle.fbl_input.proofs.Inputs.{over_input}
pub use Rattle.std.proofs.Common.{nat_eq, ◌&&◌}
pub use Rattle.std.proofs.lemmas.List.{map_push}
pub use Rattle.fbl_trace.specs.declared.fault.Breach.{Breach}
pub use Rattle.fbl_scripts.specs.Texts.{member_line, of_members, state_word}
pub use Rattle.fbl_scripts.specs.Scripts.{BreaksScript, IsNoScript, IsRequestOf, Outline, RefusesScript, outline_of, outline_of_input}
pub use Rattle.fbl_input.specs.declared.fault.RunFault.{RunFault}
