pub use Rattle.std.proofs.Common.{List, None, Option, Some, [], ap, append-nil, arith, cond, drop, false, get_or, length, map, not, suc, sym, take, true, ℕ, ◌++◌, ◌+◌, ◌-◌, ◌<◌, ◌==◌, ◌||◌, ◌∙◌, ◌∷◌, ◌≡◌, inl, inr, refl, rules, slice_get, vec_len, ◌≤◌, ◌≢◌, subst, ◌↔◌, set, get_or-set_same, get_or-set_other, add-one, length-set}
pub use Rattle.std.proofs.lemmas.Bool.{cases_eq, cases_lt, false≢true}
pub use Rattle.std.proofs.lemmas.Grind.{common_steps}
pub use Rattle.std.proofs.lemmas.List.{append_assoc, at_drop_all, at_drop_more, get_or_append_left, get_or_push, map_more}
pub use Rattle.std.proofs.lemmas.List.{length-append}
pub use Rattle.std.proofs.lemmas.Option.{slice_get-get_or, slice_get_within}
pub use Rattle.std.proofs.lemmas.Result.{IfOk-weaker}
pub use Rattle.std.specs.List.{flat_map, list_any, range_with_len}
pub use Rattle.std.specs.Option.{is_some, option_to_list}
pub use Rattle.fbl_trace.proofs.Common.{nat_tests}
pub use Rattle.fbl_trace.proofs.Gets.{rows_on}
pub use Rattle.fbl_trace.specs.Events.{is_message, same_message}
pub use Rattle.fbl_trace.specs.declared.trace.MessageName.{MessageName}
pub use Rattle.fbl_runs.specs.Clocks.{StandsAt, cut_of, seen}
pub use Rattle.fbl_runs.specs.Entries.{entry_member, log_of}
pub use Rattle.fbl_runs.specs.declared.entry.Entry.{Entry}
pub use Rattle.fbl_input.proofs.Outputs.{puts_text}
pub use Rattle.fbl_history.proofs.Common.{column_marks, recovery_mark, strike_mark, history_member_shapes, is_back, line_parts, members_shapes, drawn, label_and_names}
pub use Rattle.fbl_history.specs.Arrows.{arrow_from, back_before, has_standing_receipt, receipt_arrow, sent_before, stub, stub_where, taken_by_column}
pub use Rattle.fbl_history.specs.declared.shape.Glyph.{Glyph}
pub use Rattle.fbl_history.specs.declared.shape.Shape.{Shape}
pub use Rattle.fbl_pictures.specs.Columns.{column_in}
pub use Rattle.fbl_pictures.specs.Crossings.{HasPassed, IsBehind, IsBeyond, IsCrossing, IsEnd, IsCrossingOf, AreCrossings}
pub use Rattle.fbl_pictures.specs.Pictures.{IsPictureText}
pub use Rattle.fbl_pictures.specs.RunShapes.{ArePathsDrawn, AreStepsTo, entry_arrow, entry_stub, member_shapes, members_drawn, moment_drawn, moment_part, moment_shapes, path_shapes, shapes_of_member}
pub use Rattle.fbl_pictures.specs.declared.run.columns.Columns.{Columns}
