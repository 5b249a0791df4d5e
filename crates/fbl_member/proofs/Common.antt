pub use Rattle.std.specs.Prelude.{nat_lt}
pub use Rattle.std.proofs.Common.{Ok, Err, MatchResult, Result, Bor, IfSome, List, None, Option, Some, [], ap, arith, cond, drop, false, if◌then◌else◌, length, map, refl, slice_get, slice_set, suc, sym, true, zero}
pub use Rattle.fbl_trace.proofs.Common.{get_or, ℕ, ◌++◌, ◌+◌, ◌-◌, ◌<◌, ◌==◌, ◌∙◌, ◌∷◌, ◌≡◌, ◌≤◌, common_steps}
pub use Rattle.std.proofs.Math.ListN.{length-set}
pub use Rattle.fbl_table.proofs.Common.{nat_tests, get_or_from_slice_get, slice_get-get_or, slice_get_past, slice_get_within, length-filter_map, same_determinant, is_open, piggybacked}
pub use Rattle.std.proofs.lemmas.List.{append-nil, append_assoc, drop_all, drop_more, length-append}
pub use Rattle.std.proofs.lemmas.List.Elements.{All-pop, All-push}
pub use Rattle.std.specs.List.{All, AllByRecursion}
pub use Rattle.std.specs.Option.{option_copied, option_map}
pub use Rattle.std.specs.Vec.{vec_capacity, vec_len}
pub use Rattle.fbl_trace.specs.Fold.{numbered, starts_of}
pub use Rattle.fbl_trace.specs.declared.trace.Determinant.{Determinant}
pub use Rattle.fbl_trace.specs.declared.trace.Start.{Start}
pub use Rattle.fbl_table.specs.declared.entry.Entry.{Entry}
pub use Rattle.fbl_member.specs.Carried.{IsOnce}
pub use Rattle.fbl_member.specs.Laws.{IsKept, without_number}
pub use Rattle.fbl_member.specs.Members.{MemberRecord, Message, blank, fresh, logged_beyond, logged_note, messages_from}
pub use Rattle.fbl_member.specs.Stored.{HasRoom, HasRooms}
pub use Rattle.fbl_member.specs.declared.buffers.Buffers.{Buffers}
