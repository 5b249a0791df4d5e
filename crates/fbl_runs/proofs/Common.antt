pub use Rattle.std.proofs.Common.{Bool, List, None, Option, Some, [], add-one, ap, arith, cond, drop, false, get_or, inl, inr, length, length-append, length-take, max}
pub use Rattle.fbl_trace.proofs.Common.{not, refl, slice_get, subst, suc, sym, take, true, zero, ℕ, ◌&&◌, ◌++◌, ◌+◌, ◌<◌, ◌==◌, ◌↔◌, ◌∙◌, ◌∷◌, ◌≡◌, ◌≢◌, ◌≤◌, ◌⊎◌, nat_tests, append-nil, take-append-drop, take_all}
pub use Rattle.fbl_trace.proofs.Common.{filter-append, filter_map-append, slice_get_read, slice_get_within, filter_map, receipt_of, send_of, MayFollow, WellFormed}
pub use Rattle.std.proofs.lemmas.Bool.{cases_eq, cases_lt, cases_order, eqb-true, false≢true}
pub use Rattle.fbl_trace.proofs.Gets.{At-filter_map, At-front, At-push, At-seam, filter_map-At, slice_get-take, take-more}
pub use Rattle.fbl_trace.proofs.RulesLaws.{MayFollow-last, MayFollow-new, WellFormed-front, eqb-self, in_flight-sent}
pub use Rattle.fbl_trace.specs.declared.trace.Determinant.{Determinant}
pub use Rattle.fbl_trace.specs.declared.trace.Mark.{Mark}
pub use Rattle.fbl_trace.specs.declared.trace.Mark.TheVariants.{Receipt, Send}
pub use Rattle.fbl_runs.specs.declared.causality.Causality.{Causality}
pub use Rattle.fbl_runs.specs.declared.causality.Causality.TheVariants.{Dependence, HappenedBefore}
pub use Rattle.fbl_runs.specs.declared.control.ControlMessage.{ControlMessage}
pub use Rattle.fbl_runs.specs.declared.entry.Entry.{Entry}
pub use Rattle.fbl_runs.specs.declared.entry.Entry.TheVariants.{Event, Hold, LaterReceipt, Restart, Store, Tell, Told}
pub use Rattle.fbl_runs.specs.Entries.{IsRecord, Logs, entry_member, is_at, log_of, mark_in, marks, named_life, receipt_in, recorded_in, restart_in}
pub use Rattle.fbl_runs.specs.HappenedBefore.{Begins, Carries, IsAt, IsEarlier, Leads, Position, Precedes, StoodBefore, Tells, at, itself, step}
pub use Rattle.fbl_runs.specs.Lives.{StandsBehind, StandsInLife, life_in, standing}
pub use Rattle.fbl_runs.specs.Moments.{Cut, IsKnownTo, IsReceiptAt}
