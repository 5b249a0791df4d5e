pub use Rattle.std.proofs.Common.{Bool, List, None, Option, Some, [], ap, append-nil, arith, below_more, cond, eq-eqb, eqb, false, filter, find, get_or, get_or-set_other, get_or-set_same, inl, inr}
pub use Rattle.fbl_group.proofs.Common.{not, ◌==◌, ◌||◌, ◌↔◌, ◌∙◌, ◌∷◌, ◌≡◌, ◌≤◌, ◌⊎◌, nat_tests, filter-append, nat_cmp_total, nat_cmp, Settings, Next, Has, Recovers}
pub use Rattle.fbl_group.proofs.Common.{strike_refusal, RefusesCommit, GroupRecord, knowledge, member, Message}
pub use Rattle.std.proofs.Common.{length, length-set, map, ne_eqb, option_map, refl, rules, set, slice_index, subst, suc, sum, sym, take, true, true≢false, zero, ℕ, ◌++◌, ◌+◌, ◌<◌}
pub use Rattle.std.proofs.Math.ListN.{replicate}
pub use Rattle.std.proofs.Math.Logic.{∥∥₁_elim, ∥∥₁_map}
pub use Rattle.fbl_law.proofs.Common.{cases_lt, mark_of, member_of, IsDelivery, IsStrike, delivery_events, IsEventCut, Stays}
pub use Rattle.std.proofs.lemmas.List.{ext_get_or, length-replicate, length-take, set-get_or, take-append-le, take_all}
pub use Rattle.std.proofs.lemmas.List.Folds.{sum_by-replicate}
pub use Rattle.std.proofs.lemmas.List.Sums.{get_or-le-sum_by, sum_by-set}
pub use Rattle.std.specs.Coded.{Coded, Coded-set, coded_ℕ, codes}
pub use Rattle.std.specs.Option.{is_none, is_some}
pub use Rattle.atomic_table.proofs.Lists.{at_longer, at_set, at_snoc, set_again, set_else}
pub use Rattle.atomic_table.specs.Table.{Allows, Joins, Splits, State, keeps}
pub use Rattle.fbl_trace.specs.MemberSets.{Members, same_from_contains}
pub use Rattle.fbl_trace.specs.Breaches.{IsPlan, MayBeStruck, set_at}
pub use Rattle.fbl_trace.specs.declared.strike.Strike.{Strike}
pub use Rattle.fbl_trace.specs.declared.trace.Event.{Event}
pub use Rattle.fbl_trace.specs.declared.trace.Mark.{Mark}
pub use Rattle.fbl_group.proofs.Striking.{is_allowed}
pub use Rattle.fbl_group.specs.Records.{Commits, IsPlannedCrash, IsRecoveryRecord, StrikeLeads, TurnLeads, TurnsLead}
pub use Rattle.fbl_group.specs.declared.answers.Recovered.{Recovered}
pub use Rattle.fbl_group.specs.declared.answers.CrashRecord.{CrashRecord}
pub use Rattle.fbl_group.specs.declared.answers.RecoveryRecord.{RecoveryRecord}
pub use Rattle.fbl_group.specs.declared.answers.TurnRecord.{TurnRecord}
pub use Rattle.fbl_group.specs.declared.refusals.CommitRefusal.{CommitRefusal}
pub use Rattle.fbl_group.specs.declared.refusals.CommitRefusal.TheVariants.{Down, Full, Memory, Stale}
pub use Rattle.fbl_trace.specs.declared.ticket.Ticket.{Ticket}
pub use lib.ListN.{get_elem?}
pub use mathlib.Core.Logic.{dite, ⊎_elim}
pub use mathlib.Core.Option.{some, some-ne-none}
pub use native.Mathlib.Decide.{ℕ_discrete}
pub use prog.Atomic.{either}
pub use Rattle.fbl_turns.specs.Claims.{HasOneHolder, IsClaimed, IsExclusive, IsFree, IsSaidBy, ViewHolds, WordsFollowViews}
pub use Rattle.fbl_turns.specs.Counted.{counts_of}
pub use Rattle.fbl_turns.specs.Pasts.{Keeps, TurnsKeep, events_of}
pub use Rattle.fbl_turns.specs.Plans.{is_named, struck_at}
pub use Rattle.fbl_turns.specs.Recorded.{IsReceiptRecord, IsRecordedAs, ReachedBy, RecordedTurnsLead}
pub use Rattle.fbl_turns.specs.Recorded.ReachedBy.{begins, goes_on}
pub use Rattle.fbl_turns.specs.Recorders.{CountsRefusal, CrashesAs, IsAdded, ReachedAs, TurnAs, recorded, with_record}
pub use Rattle.fbl_turns.specs.Runs.{Counts, Reached, Turn, commits_one, more_at, nothing_done, undoes}
pub use Rattle.fbl_turns.specs.Runs.Reached.{starts, turns}
pub use Rattle.fbl_turns.specs.Runs.Turn.{commits, crashes, is_full, is_late, strikes, wants}
pub use Rattle.fbl_turns.specs.Turns.{MayTake}
