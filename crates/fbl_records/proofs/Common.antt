pub use Rattle.std.proofs.Common.{Bool, Err, IfSome, List, None, Ok, Option, Result, Some, [], ap, arith, cond, drop, false, get_or, length, length-append, map, nat_cmp, nat_eq, nat_lt, not, option_and_then}
pub use Rattle.std.proofs.Common.{option_map, refl, subst, suc, sym, take, true, zero, ℕ, ◌&&◌, ◌++◌, ◌+◌, ◌-◌, ◌<◌, ◌==◌, ◌∙◌, ◌∷◌, ◌≡◌, ◌≤◌, append-nil, append_assoc, inl, inr}
pub use Rattle.std.proofs.Math.Bool.{and-false}
pub use Rattle.std.proofs.lemmas.Bool.{eqb-true, le-leb, le-ltb, false≢true}
pub use Rattle.std.proofs.lemmas.List.{drop-append-le, map_push, take-append-le, take_all, take_more}
pub use Rattle.std.proofs.lemmas.List.Elements.{All-push}
pub use Rattle.std.proofs.lemmas.List.Sums.{prefix_len-le-length}
pub use Rattle.std.proofs.lemmas.Map.Views.{any-filter_same}
pub use Rattle.std.proofs.lemmas.Result.{IfOk-weaker}
pub use Rattle.fbl_trace.proofs.Common.{nat_cmp_total}
pub use Rattle.std.proofs.lemmas.Str.{IsUtf8-append}
pub use Rattle.std.specs.Char.{is_ascii_digit}
pub use Rattle.std.specs.List.{All, filter, list_all, list_any, prefix_len, range_with_len, starts_with}
pub use Rattle.fbl_input.proofs.Common.{IsUtf8, items_of}
pub use Rattle.fbl_trace.specs.Dumps.{IsDump, Parts, parts_of}
pub use Rattle.fbl_trace.specs.MemberSets.{AllBelow, member_list}
pub use Rattle.fbl_trace.specs.declared.trace.Determinant.{Determinant}
pub use Rattle.fbl_trace.specs.declared.trace.Mark.{Mark}
pub use Rattle.fbl_input.proofs.Lists.{elements_of, json_read}
pub use Rattle.fbl_input.specs.Shapes.{all_shaped, json_of, list_of, longest, member_shape, name_of, number_within, or_fault, set_shape, value_of_input, ◌>>=◌}
pub use Rattle.fbl_input.specs.declared.fault.RunFault.{RunFault}
pub use Rattle.fbl_input.specs.declared.input_fault.InputFault.{InputFault}
pub use Rattle.fbl_input.specs.declared.input_kind.InputKind.{InputKind}
pub use Rattle.serde_json.specs.Data.{Data}
pub use Rattle.serde_json.specs.Read.{max_depth, of_json, read}
pub use Rattle.fbl_records.specs.DumpLines.{event_data, list_data, number_data, pair_data}
pub use Rattle.fbl_input.specs.Items.{event_shape, pair_shape}
pub use Rattle.fbl_records.specs.Dumps.{parts_of_data, parts_of_input}
