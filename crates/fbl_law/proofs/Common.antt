pub use Rattle.std.proofs.Common.{Bool, Decides, List, None, Option, Some, [], ap, append_assoc, arith, cond, count_by, drop, false, get_or, if◌then◌else◌, inl, inr, length}
pub use Rattle.std.proofs.Common.{length-append, length-take, map, nat_le, nat_lt, not, option_map, refl, slice_get, subst, suc, sym, take, true, zero, ℕ, ◌&&◌, ◌*◌, ◌++◌, ◌+◌}
pub use Rattle.fbl_trace.proofs.Common.{◌-◌, ◌<◌, ◌==◌, ◌||◌, ◌↔◌, ◌∙◌, ◌∷◌, ◌≡◌, ◌≢◌, ◌≤◌, ◌⊎◌, nat_cmp, At, destination_of, determinant_of, mark_of, member_of, receipt_of, same_determinant, send_of, start_of}
pub use Rattle.fbl_trace.proofs.Common.{starts_of, step_events, took, MayFollow, WellFormed, in_flight, is_receipt_of, is_send_of, receipts_of, sends_of, sent_on, taken_on}
pub use Rattle.std.proofs.Math.Nat.{add-zero, zero-add}
pub use Rattle.std.proofs.Math.Seq.{take-append-add}
pub use Rattle.std.proofs.lemmas.Bool.{and_parts, false≢true, cases_Bool, cases_eq, cases_lt, cases_order, eq-eqb, false_from_ne_true, ne_eqb}
pub use Rattle.std.proofs.lemmas.Bool.Decides.{Decides-like, Decides-or, leb_tells, nat_tests, same_from_decides}
pub use Rattle.std.proofs.lemmas.List.{append-nil, drop-map, drop_all, get_or-set_other, get_or-set_same, get_or_default, get_or_past, length-map}
pub use Rattle.std.proofs.lemmas.List.{length-set, map-append, nil_from_length, take-append-drop, take-map, take_all}
pub use Rattle.std.proofs.lemmas.List.Elements.{All-append, All-cons, All-contains, All-contains_itself, All-from_get_or, All-head, All-map, All-nil, All-push, All-tail, All-take, All-weaker}
pub use Rattle.std.proofs.lemmas.List.Elements.{Contains-append_cases, Contains-append_left, Contains-append_right, Contains-get_or, filter-append, filter_map-append, filter_passes}
pub use Rattle.std.proofs.lemmas.List.Filters.{length-filter_both}
pub use Rattle.std.proofs.lemmas.List.Folds.{Any-from_list_any, find_at, fold-map, fold_along, list_any-append, list_any-from_Any, list_any_at}
pub use Rattle.std.proofs.lemmas.List.Sums.{count_by-le-length, fails_before_first, fold-append, passes_at_first, sum_by-append, sum_by-cons, sum_by-drop_more, sum_by_push}
pub use Rattle.std.proofs.lemmas.List.Quantifiers.{all_pairs_push}
pub use Rattle.std.proofs.lemmas.Map.Made.{AllPairs-from_IsDistinct, IsDistinct-from_AllPairs, is_member-Decides, length-le_from_is_member}
pub use Rattle.std.proofs.lemmas.Option.{get_or_from_slice_get, slice_get-get_or, slice_get-map, slice_get_within}
pub use Rattle.std.proofs.lemmas.Simd.{map-map}
pub use Rattle.std.specs.Cmp.{decided}
pub use Rattle.std.specs.List.{All, Contains, filter, filter_map, fold, list_any, position_or_len}
pub use Rattle.std.specs.Option.{option_map_or}
pub use Rattle.std.specs.Prelude.{slice_index_or, slice_set, sum_by}
pub use Rattle.fbl_trace.proofs.LawfulLaws.{after_notes-state, lawful_deliver, note_of-front, notes_of-sent, receipts-noted, sent-note}
pub use Rattle.fbl_trace.proofs.Gets.{Apart, At-seam, Apart-later, At-below, At-filter, At-filter_map, At-front, At-push, drop_next, filter_map-At, filter_map-agree, map-At}
pub use Rattle.fbl_trace.proofs.Gets.{split-at, take-more, length-filter_map, length-left}
pub use Rattle.fbl_trace.proofs.RulesLaws.{receipt-number, filter_all, in_flight-receipt, in_flight-send, sent-rises, MayFollow-last, WellFormed-front, WellFormed-keeps, WellFormed-none, WellFormed-push, WellFormed-take}
pub use Rattle.fbl_trace.proofs.RulesLaws.{eqb-self, in_flight-sent, is_sent, receipts-step, sends-step, sent-before, is_receipt, Decides-same_determinant}
pub use Rattle.fbl_trace.proofs.PrecedenceLaws.{one_place, one_send, Earlier-front, Has-append, Has-filter, Has-first, Has-last, Precedes-entered, Precedes-filter, Precedes-front, Precedes-within}
pub use Rattle.fbl_trace.proofs.Sets.{len-within, some_member, some_outside}
pub use Rattle.fbl_trace.specs.Dumps.{HeldAt}
pub use Rattle.fbl_trace.specs.Configs.{IsConfig, Settings, StartAllowed}
pub use Rattle.fbl_trace.specs.Fold.{Action, Lawful, Logged, Next, Progress, action_of, actions_of, advanced, after_notes, begun, note_of, notes_of, numbered, responses, sent}
pub use Rattle.fbl_trace.specs.MemberSets.{AllBelow, Members, contains-members_where, contains-union, contains-insert_other, contains-insert_same, members_where}
pub use Rattle.fbl_trace.specs.Precedence.{Depends, Earlier, Has, Leads, Precedes, itself, step}
pub use Rattle.fbl_trace.specs.Steps.{SendsWell}
pub use Rattle.fbl_trace.specs.declared.trace.Determinant.{Determinant}
pub use Rattle.fbl_trace.specs.declared.trace.Event.{Event}
pub use Rattle.fbl_trace.specs.declared.trace.Mark.{Mark}
pub use Rattle.fbl_trace.specs.declared.trace.Mark.TheVariants.{Receipt, Send}
pub use Rattle.fbl_trace.specs.declared.trace.Start.{Start}
pub use Rattle.fbl_member.proofs.Logs.{length-numbered, numbered-append}
pub use Rattle.fbl_member.proofs.Once.{IsOnce-none}
pub use Rattle.fbl_member.specs.Carried.{IsOnce}
pub use Rattle.fbl_member.specs.Members.{MemberRecord, Message, blank, fresh, last_from, logged_beyond, logged_note, messages_from, next_determinant, progress_of, replayed_by}
pub use Rattle.fbl_table.proofs.Adding.{added_new, fold_next, held-carried, held-gathered, not_held_learned}
pub use Rattle.fbl_table.specs.Tables.{found, gathered, held_by, is_held, is_of_receipt, learned, noted, piggybacked}
pub use Rattle.fbl_table.specs.declared.entry.Entry.{Entry}
pub use Rattle.fbl_law.specs.Promises.{dump_of, held_pairs, pairs_from, pairs_of, GainsHolders, HoldsEachReceipt, IsHeldBy, LeavesRecorded, RecordsCauses, RecordsFirst, SurvivorsHold}
pub use Rattle.fbl_law.specs.GroupLaws.{CheckpointIsRecorded, GainsTheDown, GroupCheckpointKeeps, OfRecovery, RecordedTest, RunFrom, RunIsSound, StaysIsRecorded, checkpoints, delivers, recovers, starts, strikes}
pub use Rattle.fbl_law.specs.GroupSteps.{IsCheckpoint, IsDelivery, IsGroupStart, IsMadeAgain, IsRecovery, IsStrike, delivery_events, made, message_of_send, receiver, start_events, step_of, IsEventCut}
pub use Rattle.fbl_law.specs.GroupSteps.{Stays, UpTo, between, gathered_all, is_on, recovery_table, saved_tables, taken_off, IsNextReplay, IsRebuilt, IsReplaying, IsWaiting, count_in, before_lost}
pub use Rattle.fbl_law.specs.GroupSteps.{is_lost, is_replayed, recovered_trace, replayed_in, resent, resent_to, sent_again, stays_by, stays_in, working}
pub use Rattle.fbl_law.specs.Groups.{GroupRecord, HasChannels, channel, is_recorded, is_recorded_among, knowledge, marks, member, member_checkpoint, messages_in_flight, receipts}
pub use Rattle.fbl_law.specs.Groups.{sum_below, IsFold, IsReplayed, IsSound, OfSound, last_taken, receipts_at, received_notes}
pub use Rattle.fbl_law.specs.Knowledge.{Holds, Includes, IsAlwaysHeld, IsBeforeCheckpoint, IsCheckpointKept, IsClosed, IsDown, IsDownEmpty, IsHolder, IsInFlight, IsOrphan, IsRecorded, IsSoundKnowledge, IsStable, IsThere}
pub use Rattle.fbl_law.specs.Knowledge.{IsTrueEntry, IsUp, Knowledge, KnowsTruth, MatchesTrace, Names, NamesCauses, Owes, Store, checkpoint, entries, in_checkpoint, in_message, in_table, owner, send_mark, table}
pub use Rattle.fbl_law.specs.StepLaws.{AnyNote, AnyState, HoldsFirst, HoldsOf, StepConserves, StepKeeps, StepLosesNone, StepMakesNone, WeighsNoLess, WeighsNoMore, WeighsTheSame}
pub use Rattle.fbl_law.specs.StepLaws.{weight_after, weight_at_first, weight_flying, weight_of, weight_of_starts}
