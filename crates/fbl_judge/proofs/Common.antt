pub use Rattle.std.proofs.Common.{Bool, List, None, Option, Some, [], ap, append_assoc, arith, cond, drop, false, inl, inr, length, max, MatchOption}
pub use Rattle.fbl_trace.proofs.Common.{refl, slice_get, subst, suc, sym, take, true, zero, ℕ, ◌++◌, ◌+◌, ◌-◌, ◌<◌, ◌==◌, ◌↔◌, ◌∙◌, ◌∷◌, ◌≡◌, ◌≢◌, ◌≤◌, ◌⊎◌, list_any}
pub use Rattle.fbl_runs.proofs.Common.{cases_eq, cases_lt, cases_order, eqb-true, false≢true, nat_tests, append-nil, slice_get_read, slice_get_within, At-front, At-push, eqb-self}
pub use Rattle.fbl_trace.proofs.Sets.{len-within}
pub use Rattle.fbl_trace.specs.Events.{send_of}
pub use Rattle.fbl_trace.specs.MemberSets.{AllBelow, Members, contains-union}
pub use Rattle.fbl_trace.specs.declared.trace.Determinant.{Determinant}
pub use Rattle.fbl_trace.specs.declared.trace.Mark.{Mark}
pub use Rattle.fbl_trace.specs.declared.trace.Mark.TheVariants.{Receipt, Send}
pub use Rattle.fbl_runs.specs.declared.causality.Causality.{Causality}
pub use Rattle.fbl_runs.specs.declared.causality.Causality.TheVariants.{Dependence, HappenedBefore}
pub use Rattle.fbl_runs.specs.declared.control.ControlMessage.{ControlMessage}
pub use Rattle.fbl_runs.specs.declared.entry.Entry.{Entry}
pub use Rattle.fbl_runs.specs.declared.entry.Entry.TheVariants.{Event, Hold, LaterReceipt, Restart, Store, Tell, Told}
pub use Rattle.fbl_runs.specs.Entries.{IsArrival, IsRecord, Logs, entry_member, log_of, mark_in, receipt_in, recorded_in, restart_in}
pub use Rattle.fbl_runs.specs.HappenedBefore.{Carries, IsAt, IsEarlier, Leads, Position, Precedes, StoodBefore, Tells, at, itself, step}
pub use Rattle.fbl_runs.specs.Lives.{StandsBehind, standing}
pub use Rattle.fbl_runs.specs.Moments.{Cut, DependsAt, HasCome, HasRestarted, HoldsAt, IsInStepOf, IsLeastDependent, IsLeastMoment, IsMoment, IsReceiptAt, IsStoredAt, SameRestarts, Stands, last_cut}
pub use Rattle.fbl_runs.specs.Runs.{AlwaysSafe, AreEntries, AreStruckOrHold, IsJudgedAt, IsOrphanAt, IsSafe, IsSafeFromTheFirst, LosesAt, LosesReceiptAt, MayBeLost, Run, bound}
pub use Rattle.fbl_runs.specs.Clocks.{StandsAt, cut_of, seen}
pub use Rattle.fbl_runs.specs.Logs.{RunParts, run_of}
