pub use Rattle.std.proofs.Common.{Bool, Decides, List, MatchOption, None, Option, Some, [], add-one, ap, append_assoc, arith, below_more, bit_and, bit_or, cond, count_by}
pub use Rattle.std.proofs.Common.{drop, eqb, false, get_or, inl, inr, length, length-append, length-set, length-take, map, not, refl, replicate}
pub use Rattle.std.proofs.Common.{slice_get, suc, sym, take, subst, true, w16, zero, ℕ, ◌%◌, ◌&&◌, ◌*◌, ◌++◌, ◌+◌, ◌-◌, ◌/◌, ◌<◌, ◌==◌, ◌^◌, ◌||◌, ◌↔◌, ◌∙◌, ◌∷◌, ◌≡◌, ◌≢◌, ◌≤◌, ◌⊎◌}
pub use Rattle.std.proofs.Math.Nat.{mod-lt}
pub use Rattle.std.proofs.Math.Seq.{drop-cons, take-suc}
pub use Rattle.std.proofs.lemmas.Bool.{and_parts, cases_Bool, cases_eq, eq-eqb, false≢true}
pub use Rattle.std.proofs.lemmas.Bool.Decides.{nat_tests}
pub use Rattle.std.proofs.lemmas.Grind.{common_steps}
pub use Rattle.std.proofs.lemmas.List.{append-nil, get_or-map, get_or-take, length-map, length-replicate, replicate_more, map-append, take-append-drop, take-append-le, take-take, take_all, take_more}
pub use Rattle.std.proofs.lemmas.List.Elements.{All-contains_itself, All-filter, All-get_or, All-head, All-tail, filter-append, filter_map-append}
pub use Rattle.std.proofs.lemmas.List.Folds.{Any-from_list_any, list_any-append, list_any-from_Any}
pub use Rattle.std.proofs.lemmas.List.Sums.{count_by-le-length, length-filter, sum_by-append, sum_by-cons, sum_by_push}
pub use Rattle.std.proofs.lemmas.Nat.{and_le_l, or_lt}
pub use Rattle.std.proofs.lemmas.Nat.Bits.{bit_at-lt, bit_at-suc, bit_at-zero, bit_at_lowest, bit_at_above, bit_at_and, bit_at_not, bit_at_or, bit_at_set_other, bit_at_set_same, shr_and_one}
pub use Rattle.std.proofs.lemmas.Option.{get_or_from_slice_get, slice_get-get_or, slice_get-map, slice_get_read, slice_get_within}
pub use Rattle.std.proofs.lemmas.Slice.Eq.{slice_eq-Decides}
pub use Rattle.std.specs.Cmp.{nat_cmp_total, unsigned_tied}
pub use Rattle.std.specs.Int.{bit_at}
pub use Rattle.std.specs.Int.Count.{ones_step}
pub use Rattle.std.specs.List.{All, Contains, cons_option, filter, filter_map, flat_map, fold, list_any, range_with_len}
pub use Rattle.std.specs.Ordering.{eq_by_cmp, nat_cmp}
pub use Rattle.std.specs.Prelude.{slice_index, slice_set}
pub use Rattle.fbl_trace.specs.MemberSets.{bits_of-set_of, contains-set_of, has_one, contains-insert_other, contains-insert_same, contains-members_where, member_list, same_from_contains}
pub use Rattle.fbl_trace.specs.Breaches.{FitsEvent, first_in_flight, next_number, IsBad, number_before}
pub use Rattle.fbl_trace.specs.Configs.{Settings, StartAllowedAt}
pub use Rattle.fbl_trace.specs.Dumps.{FitsPair, HeldAt, Parts, is_received, parts_of}
pub use Rattle.fbl_trace.specs.Rules.{Counted, CountsEvent, first_by, next_by, MayFollow, WellFormed, in_flight, is_receipt_of, is_send_of, receipts_of, sends_of, sent_on, taken_on}
pub use Rattle.fbl_trace.specs.Events.{At, destination_of, determinant_of, mark_of, member_of, receipt_of, receipts, same_determinant, send_of, source_of}
pub use Rattle.fbl_trace.specs.Fold.{Action, Next, Progress, action_of, actions_of, advanced, after_notes, begun, note_of, notes_of, responses, sent, start_of, starts_of, step_events, took}
pub use Rattle.fbl_trace.specs.Precedence.{DependsOnPlace, PlacePrecedes, place_step, same_place, Depends, Earlier, Has, Precedes, itself, step}
pub use Rattle.fbl_trace.specs.declared.fault.EventRule.{EventRule}
pub use Rattle.fbl_trace.specs.declared.rules.Counts.{Counts}
pub use Rattle.fbl_trace.specs.declared.trace.Determinant.{Determinant}
pub use Rattle.fbl_trace.specs.declared.trace.Event.{Event}
pub use Rattle.fbl_trace.specs.declared.trace.Mark.{Mark}
pub use Rattle.fbl_trace.specs.declared.trace.Mark.TheVariants.{Receipt, Send}
pub use Rattle.fbl_trace.specs.declared.trace.Start.{Start}
