pub use Rattle.fbl_turns.proofs.Common.{Bool, List, Some, [], ap, append-nil, arith, cond, get_or-set_other, get_or-set_same, inl, inr, length, option_map, refl, slice_index, sum}
pub use Rattle.fbl_turns.proofs.Common.{sym, ℕ, ◌++◌, ◌+◌, ◌<◌, ∥∥₁_elim, nat_tests, sum_by-replicate, Coded-set, coded_ℕ, codes, nat_cmp, Next, Members, GroupRecord, ⊎_elim}
pub use Rattle.fbl_turns.proofs.Common.{Keeps, struck_at, begins, goes_on, recorded, Counts, Reached, Turn, more_at, starts, turns, commits, crashes, strikes}
pub use Rattle.fbl_law.proofs.Common.{length-append, ◌≢◌, ◌==◌, ◌∙◌, ◌∷◌, ◌≡◌, ◌≤◌, ◌⊎◌, cases_eq, sum_by_push}
pub use Rattle.fbl_trace.proofs.Gets.{At-push, get_or-same}
pub use Rattle.fbl_trace.specs.declared.strike.Strike.{Strike}
pub use Rattle.fbl_group.specs.declared.answers.Recovered.{Recovered}
pub use Rattle.fbl_group.specs.declared.answers.CrashRecord.{CrashRecord}
pub use Rattle.fbl_group.specs.declared.answers.TurnRecord.{TurnRecord}
pub use Rattle.fbl_trace.specs.declared.ticket.Ticket.{Ticket}
pub use Rattle.fbl_turns.proofs.Keeping.{kept, sum-more}
pub use Rattle.fbl_turns.proofs.Kept.{kept_by_some, still}
pub use Rattle.fbl_turns.proofs.Recording.{forgets, kept_if, listed, opens, some_run}
pub use Rattle.fbl_threads.specs.Crossing.{StrikesAsPlanned, planned_at, struck_in, struck_on}
pub use Rattle.fbl_turns.specs.Recorded.{ReachedBy, TellsCounts, crash_undid, made_by, undone_in, undone_of}
