pub use Rattle.std.proofs.Common.{Bool, List, None, Ok, Option, Some, inl, inr, zero, [], ap, append-nil, arith, cond, drop, false, get_or, length, length-append, map, not, refl, rules, slice_get, subst, suc, sym, take, take_all, true, ℕ, ◌++◌}
pub use Rattle.fbl_law.proofs.Common.{◌&&◌, ◌+◌, ◌-◌, ◌<◌, ◌==◌, ◌∙◌, ◌∷◌, ◌≡◌, ◌≤◌, ◌⊎◌, false_from_ne_true, nat_tests, filter-append, filter_map-append, get_or_from_slice_get, slice_get-get_or, slice_get-map}
pub use Rattle.fbl_law.proofs.Common.{after_notes-state, note_of-front, receipts-noted, At-below, At-front, At-push, map-At, take-more, one_place, Settings, Has, SendsWell, MayFollow, WellFormed, is_receipt_of}
pub use Rattle.fbl_law.proofs.Common.{is_send_of, receipts_of, sends_of, IsCheckpoint, IsDelivery, IsGroupStart, IsRecovery, IsStrike, delivery_events, start_events, receiver, stays_by, step_of, GroupRecord, marks}
pub use Rattle.fbl_law.proofs.Common.{member, member_checkpoint, receipts_at, IsReplayed, IsSound, received_notes, length-numbered, MemberRecord, Message, blank, logged_note, replayed_by}
pub use Rattle.std.proofs.lemmas.List.{map-append, take_more, get_or-set_other, get_or-set_same, get_or_default, length-map, length-set, take-take}
pub use Rattle.std.proofs.lemmas.Map.Keys.{any_passes_from_place}
pub use Rattle.std.proofs.lemmas.Map.Views.{any-filter_same}
pub use Rattle.std.proofs.lemmas.List.Sums.{count_by-le-length, sum_by-append, sum_by-cons, sum_by-take-le}
pub use Rattle.std.proofs.lemmas.Result.{IfOk-weaker}
pub use Rattle.std.specs.Option.{option_map}
pub use Rattle.std.specs.List.{filter, filter_map, range_with_len}
pub use Rattle.std.specs.Prelude.{count_by, slice_index, slice_index_or, slice_set}
pub use Rattle.std.specs.declared.alloc.AllocError.{AllocError}
pub use Rattle.fbl_trace.proofs.RulesLaws.{eqb-self, receipt-number, receipts-step, sent-before, sent-number}
pub use Rattle.fbl_trace.specs.Events.{At, mark_of, receipt_of, receipts}
pub use Rattle.fbl_trace.specs.Fold.{Next, Progress, note_of, numbered, state_after, step_events}
pub use Rattle.fbl_trace.specs.MemberSets.{AllBelow, Members, member_list}
pub use Rattle.fbl_trace.specs.declared.outcome.Outcome.{Outcome}
pub use Rattle.fbl_trace.specs.declared.trace.Determinant.{Determinant}
pub use Rattle.fbl_group.proofs.Striking.{within-below}
pub use Rattle.fbl_group.specs.Records.{CrashLeads, StrikeLeads, TurnLeads, TurnsLead}
pub use Rattle.fbl_group.proofs.Common.{strike_refusal, group_delivery_keeps, group_strike_keeps, down_or_up, up_if_none}
pub use Rattle.fbl_group.specs.declared.answers.CrashRecord.{CrashRecord}
pub use Rattle.fbl_group.specs.declared.answers.RecoveryRecord.{RecoveryRecord}
pub use Rattle.fbl_group.specs.declared.answers.TurnRecord.{TurnRecord}
pub use Rattle.fbl_trace.specs.declared.trace.Event.{Event}
pub use Rattle.fbl_trace.specs.declared.trace.Mark.{Mark}
pub use Rattle.fbl_trace.specs.declared.trace.Note.{Note}
pub use Rattle.fbl_law.proofs.Lists.{filter-agree, filter-passes, some-at}
pub use Rattle.fbl_law.proofs.ReplayedRecords.{fold-received, fold-replayed, log-short, logged-by, logged-noted, mark-at, receipt-at, send-at, replayed-step}
pub use Rattle.fbl_law.proofs.GroupRecovery.{cut-one, group_recovery_keeps, stays_by-cut}
pub use Rattle.fbl_law.proofs.CutLawful.{note-was}
pub use Rattle.fbl_law.proofs.Channels.{channel-at}
pub use Rattle.fbl_law.proofs.Recovery.{cut-causes, cut-obeys, cut-was}
pub use Rattle.fbl_law.proofs.Promises.{log_counted, received_counted, up_state}
pub use Rattle.fbl_law.proofs.Receipts.{Has-receipts_at, length-received_notes, length-receipts_at, note-at, receipts_at-Has}
pub use Rattle.fbl_table.proofs.Adding.{take-next}
pub use Rattle.fbl_history.specs.Columns.{GoesOnFrom, HasEachOnce, ReceiptsFollowSends, column_then, undo, go_on, is_next, is_receipt, is_sent_by, is_standing, is_undone_receipt, receipts_made, receipts_undone, same_standing, standing, trace_then}
pub use Rattle.fbl_history.specs.Replays.{HaveReplayed}
pub use Rattle.fbl_history.specs.Turns.{IsAfterCrash, IsAfterRecoveryRecord, IsAfterTurn, IsAfterTurns, IsLedTo, is_beyond, turn_columns, undone_beyond}
pub use Rattle.fbl_history.specs.Traces.{CountsAsBefore, IsAfterRecovery, IsHistoryOf, IsRecoveryColumn, event_column, go_on_to, replay_of, replays_of, send_column, start_columns, state_after_receipt, trace_columns}
pub use Rattle.fbl_history.specs.declared.column.Column.{Column}
pub use Rattle.fbl_history.specs.declared.column.Column.TheVariants.{Checkpoint, Receipt, Recovery, Send, Strike}
pub use Rattle.std.proofs.Common.{Decides, ◌≢◌, ◌↔◌, max}
pub use Rattle.std.proofs.lemmas.Bool.{not-false, cases_lt, le-ltb, lt-ltb, ne_eqb, or_left, or_right}
pub use Rattle.std.proofs.lemmas.Bool.Decides.{Decides-and, Decides-eqb, Decides-not, Decides-or}
pub use Rattle.std.proofs.lemmas.List.Sums.{fold_push}
pub use Rattle.std.specs.Bool.{beq}
pub use Rattle.std.specs.Cmp.{booleans_Decides}
pub use Rattle.std.specs.List.{flat_map, fold}
pub use Rattle.std.specs.Option.{option_to_list}
pub use Rattle.std.specs.Prelude.{◌*◌, ◌/◌, nat_lt}
pub use Rattle.fbl_trace.specs.Events.{same_message}
pub use Rattle.fbl_trace.specs.declared.trace.MessageName.{MessageName}
pub use Rattle.fbl_history.specs.Arrows.{arrow_from, back_before, has_standing_receipt, last_before, last_sent, later, receipt_arrow, sent_before, stub, stub_where, arrow_between, arrow_kind, is_comeback, sends}
pub use Rattle.fbl_history.specs.Marks.{column_marks, event_mark, recovery_mark, strike_mark}
pub use Rattle.fbl_history.specs.MemberLines.{brings_back, history_member_shapes, is_back, is_down_after, line_parts, members_shapes, strikes}
pub use Rattle.fbl_history.specs.Names.{label_and_names}
pub use Rattle.fbl_history.specs.Shapes.{drawn, line_kind_of}
pub use Rattle.fbl_history.specs.declared.shape.Shape.{Shape}
