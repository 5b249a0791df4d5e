pub use Rattle.std.proofs.Common.{Bool, List, None, Option, Some, [], add-zero, ap, arith, cond, count_by, drop, false, get_or, if◌then◌else◌, is_some, length, map, nat_le, not}
pub use Rattle.std.proofs.Common.{position, refl, rules, slice_get, suc, sym, take, true, zero, ℕ, ◌&&◌, ◌++◌, ◌+◌, ◌<◌, ◌||◌, ◌∙◌, ◌∷◌, ◌≡◌, ◌≤◌}
pub use Rattle.std.proofs.Math.Bool.{or_comm}
pub use Rattle.std.proofs.lemmas.Bool.{eqb-true, false_from_ne_true, false≢true, or_from, or_left, or_parts, or_right}
pub use Rattle.fbl_trace.proofs.Common.{nat_tests, list_any-append, nat_cmp_total, nat_cmp, same_determinant, same_from_contains}
pub use Rattle.std.proofs.lemmas.Fn.{filter_same}
pub use Rattle.std.proofs.lemmas.List.{append-nil, append_assoc, drop_all, length-append, length-map, map-append, take_all, take_more}
pub use Rattle.std.proofs.lemmas.List.Elements.{All-get_or, AllZip-push, filter-append, filter_passes, length_all_zip, same_from_all_zip}
pub use Rattle.std.proofs.lemmas.List.Sums.{fold_push, length-filter, sum_by-cons}
pub use Rattle.std.proofs.lemmas.Map.Entries.{entries_from_clone}
pub use Rattle.std.proofs.lemmas.Option.{get_or_from_slice_get, slice_get-get_or, slice_get-map as slice_get_map, slice_get_cases, slice_get_past, slice_get_within}
pub use Rattle.std.specs.List.{AllByRecursion, AllZip, filter, filter_map, fold, position_or_len}
pub use Rattle.std.specs.Map.{keys_of, lookup, values_of}
pub use Rattle.std.specs.Option.{option_map_or, option_or}
pub use Rattle.std.specs.Prelude.{nat_lt}
pub use Rattle.std.specs.Vec.{vec_capacity}
pub use Rattle.fbl_trace.proofs.Gets.{drop_next, length-filter_map, length-left}
pub use Rattle.fbl_trace.proofs.RulesLaws.{Decides-same_determinant}
pub use Rattle.fbl_trace.proofs.Sets.{len-within}
pub use Rattle.fbl_trace.specs.declared.trace.Determinant.{Determinant}
pub use Rattle.indexmap.proofs.MapLemmas.{absent_from_lookup, insert_entry-absent, or_len-absent}
pub use Rattle.indexmap.specs.IndexMap.{insert_entry}
pub use Rattle.indexmap.specs.Layout.{length-set_value_at, set_value_at}
pub use Rattle.fbl_table.specs.Indexed.{IsIndex, open_at, IsIndexed, KeepsIndex, listed, room}
pub use Rattle.fbl_table.specs.Receipts.{receipt_at}
pub use Rattle.fbl_table.specs.Tables.{HasInPlace, IsOnce, added, entry_of, found, gathered, greatest_rsn, has_at, held_by, is_held, is_open, lacks, learned, marked, noted, piggybacked}
pub use Rattle.fbl_table.specs.declared.entry.Entry.{Entry}
pub use Rattle.fbl_table.specs.declared.indexed.IndexedEntries.{IndexedEntries}
