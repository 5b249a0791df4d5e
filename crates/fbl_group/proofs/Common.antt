pub use Rattle.std.proofs.Common.{All, Bool, Fits, IfSome, List, None, Option, Some, [], add-one, ap, append-nil, append_assoc, arith, cond, count_by, deque_items, drop, drop_of_length-le, false, get_or, inl, inr, length, length-append, map, nat_lt, not, refl, rules, slice_get, slice_index_or, slice_set, subst, suc, sum_by, sym, take, true, vec_capacity, vec_len, w32, w64, zero, ℕ, ◌*◌, ◌++◌, ◌+◌}
pub use Rattle.fbl_trace.proofs.Common.{◌-◌, ◌<◌, ◌==◌, ◌^◌, ◌||◌, ◌↔◌, ◌∙◌, ◌∷◌, ◌≡◌, ◌≢◌, ◌≤◌, ◌⊎◌, common_steps, nat_cmp_total, unsigned_tied, eq_by_cmp, nat_cmp}
pub use Rattle.std.proofs.lemmas.Bool.{false≢true, true_from_ne_false}
pub use Rattle.fbl_law.proofs.Common.{nat_tests, filter-append, Any-from_list_any, list_any-from_Any, get_or_from_slice_get, filter, filter_map, list_any, after_notes-state, eqb-self}
pub use Rattle.fbl_law.proofs.Common.{length-filter_map, length-left, Settings, determinant_of, mark_of, receipt_of, Next, step_events, AllBelow, Members, Has, itself, in_flight, sent_on}
pub use Rattle.fbl_law.proofs.Common.{taken_on, pairs_from, pairs_of, IsCheckpoint, IsDelivery, IsRecovery, IsStrike, delivery_events, step_of, between, gathered_all, is_on, recovery_table}
pub use Rattle.fbl_law.proofs.Common.{saved_tables, taken_off, IsRebuilt, IsReplaying, is_replayed, recovered_trace, replayed_in, resent, resent_to, sent_again, stays_by, working, IsDown, IsInFlight, IsUp, send_mark}
pub use Rattle.fbl_law.proofs.Common.{table, IsOnce, found, piggybacked}
pub use Rattle.std.proofs.lemmas.Fn.{filter_same}
pub use Rattle.std.proofs.lemmas.List.{at_drop_more, get_or-set_other, get_or-set_same, get_or_default, get_or_past, length-map, length-set, map-append, set-get_or, length-take, map_more, take_all}
pub use Rattle.std.proofs.lemmas.List.Sums.{AllPass-from_list_all, count_by_more_no, count_by_more_yes, fold-append, list_all-from_AllPass, sum_by-cons, count_by-le-length}
pub use Rattle.std.specs.FinSet.{contains, empty_of_len, len-empty}
pub use Rattle.fbl_trace.specs.Losses.{IsDumpOrphan}
pub use Rattle.fbl_trace.specs.Dumps.{Parts}
pub use Rattle.fbl_trace.specs.Steps.{SendsAllowed, SendsWell}
pub use Rattle.fbl_trace.specs.declared.outcome.Outcome.{Outcome}
pub use Rattle.fbl_trace.specs.declared.trace.Determinant.{Determinant}
pub use Rattle.fbl_trace.specs.declared.trace.Event.{Event}
pub use Rattle.fbl_trace.specs.declared.trace.Event.TheVariants.{Receipt}
pub use Rattle.fbl_trace.specs.declared.trace.Mark.{Mark}
pub use Rattle.fbl_trace.specs.declared.trace.Mark.TheVariants.{Send}
pub use Rattle.fbl_law.proofs.Lists.{sent_again-short, some-at, sum_below-agree, sum_below-none}
pub use Rattle.fbl_law.proofs.Channels.{flight_at, flight_ends}
pub use Rattle.fbl_law.proofs.Keeping.{checkpoint_is_recorded, group_checkpoint_keeps, group_strike_keeps, recorded_test}
pub use Rattle.fbl_law.proofs.GroupDelivery.{group_delivery_keeps, length-step_events}
pub use Rattle.fbl_law.proofs.Promises.{front_is_later, new_not_carried, new_not_held, receipt_is_new, receipts_fit, sends_fit, trace_fits, any_survivors_hold, carried_fits, dump_has_no_orphan, dump_obeys_rules, sound_holds_each_receipt, sound_records_first, table_fits}
pub use Rattle.fbl_law.proofs.GroupRecovery.{cut-undone, group_recovery_gains_holders, group_recovery_keeps, recovered_trace-cut, recovery_leaves_recorded}
pub use Rattle.fbl_law.proofs.GroupStart.{group_start_is_sound}
pub use Rattle.fbl_law.proofs.ReplayLaws.{rebuilt_is_recovered, recovered_trace-rebuilt, replay_begins, replay_is_right, replayed_in-all, replayed_in-short, replayed_in-step, replaying-next, count_in-same, replaying-room, replaying-tables, with-table, working-log}
pub use Rattle.fbl_law.proofs.OneRecovery.{recovery_exists, recovery_is_one}
pub use Rattle.fbl_law.proofs.Runs.{strikes_join}
pub use Rattle.fbl_law.proofs.Common.{cases_eq, contains-union, if◌then◌else◌, len-within}
pub use Rattle.fbl_law.proofs.Safe.{IsRecorded-before, down_or_both_up, down_or_up, no_orphan, up_if_none}
pub use Rattle.fbl_law.proofs.WeightKept.{flow, into, out, weight_in, weight_on}
pub use Rattle.fbl_law.specs.Groups.{GroupRecord, HasChannels, channel, channel_in, is_recorded, knowledge, marks, member, member_checkpoint, messages_in, messages_in_flight, receipts, sum_below, IsSound, received_notes}
pub use Rattle.fbl_member.proofs.Made.{Made, made-more, made_none}
pub use Rattle.fbl_member.proofs.Once.{IsOnce-piggybacked}
pub use Rattle.fbl_member.specs.Members.{MemberRecord, Message, blank, logged_note, messages_from, received_by, replayed_by, table_after}
pub use Rattle.fbl_table.specs.Receipts.{IsByNumber, receipt_at}
pub use Rattle.fbl_table.specs.declared.entry.Entry.{Entry}
pub use Rattle.fbl_group.specs.Refusals.{of_commit}
pub use Rattle.fbl_group.specs.declared.answers.Receipted.{Receipted}
pub use Rattle.fbl_group.specs.declared.refusals.CommitRefusal.{CommitRefusal}
pub use Rattle.fbl_channels.proofs.Queues.{Replacing, in-channels, reads, replacing-kept, replacing-other}
pub use Rattle.fbl_channels.proofs.Starting.{put-in, written-shape}
pub use Rattle.fbl_group.specs.Lost.{is_lost_receipt_of}
pub use Rattle.fbl_channels.specs.Channels.{AreReplaced, each, room_in, rows, send_of_message, taken_and_sent, with_at, with_sent}
pub use Rattle.fbl_group.specs.Deliveries.{first_message, front, front_message, Delivered, Delivers, IsDeliverRefusal, IsPlanned, MayTakeIn, TakesIn, deliver_refusal, IsCurrent, IsFresh, IsTicket, MayCommit, RefusesCommit, is_full, record_at, sends_at, take_refusal}
pub use Rattle.fbl_group.specs.Strikes.{AreByNumber, AreReplaying, AreSentAgain, IsReady, Rounds, Tries, Recovers, messages_at, AreRecordsReplaced, is_within, lost_receipts, strike_refusal}
pub use Rattle.fbl_trace.specs.declared.ticket.Ticket.{Ticket}
