pub use Rattle.std.proofs.Common.{Err, IfErr, IfSome, List, None, Ok, OnErr, OnOk, Option, Result, Some, String, [], add-one, ap, append_assoc, arith, cond, drop, drop-cons, false, get_or, inl, inr, length}
pub use Rattle.std.proofs.Common.{length-drop, length-take, map, option_and_then, option_map, refl, string_bytes, subst, suc, sym, take, true, vec_len, ℕ, ◌++◌, ◌+◌, ◌-◌, ◌<◌, ◌∙◌, ◌∷◌, ◌≡◌, ◌≤◌}
pub use Rattle.std.proofs.Math.Seq.{take-add}
pub use Rattle.fbl_trace.proofs.Common.{common_steps, take_all, nat_cmp_total, nat_cmp}
pub use Rattle.std.proofs.lemmas.Result.{IfOk-weaker}
pub use Rattle.std.proofs.lemmas.Str.{IsUtf8-from_is_utf8, is_utf8-from_IsUtf8}
pub use Rattle.std.specs.Io.KnownBytes.{Appends, Consumes, IsAtEnd, Keeps}
pub use Rattle.std.specs.List.{find}
pub use Rattle.std.specs.Prelude.{not}
pub use Rattle.std.specs.Result.{IsErrAnd}
pub use Rattle.std.specs.Str.{IsUtf8}
pub use Rattle.std.specs.declared.alloc.Global.{Global}
pub use Rattle.serde_json.specs.Data.{Data}
pub use Rattle.serde_json.specs.Find.{get}
pub use Rattle.serde_json.specs.Read.{read}
pub use Rattle.serde_json.specs.View.{items_of, members_view, view}
pub use Rattle.serde_json.specs.declared.value.Value.{Value}
pub use Rattle.fbl_input.specs.Shapes.{Fails, Gives, all_shaped, as_list, count_shape, elements, field, is_key_of, json_of, list_of, longest, member_shape, name_of, number_within, or_fault, other_key, value_of_input, ◌>>=◌}
pub use Rattle.fbl_input.specs.declared.key.Key.{Key}
pub use Rattle.fbl_input.specs.declared.fault.RunFault.{RunFault}
pub use Rattle.fbl_input.specs.Faults.{IsFaultOf, IsUnread, OverInput, PutsOut, run_result}
pub use Rattle.fbl_input.specs.declared.input_fault.InputFault.{InputFault}
pub use Rattle.fbl_input.specs.declared.input_kind.InputKind.{InputKind}
pub use Rattle.fbl_input.specs.declared.output.OutputFault.{OutputFault}
pub use Rattle.json.proofs.Numbered.{HasNumbers-at, HasNumbers-get}
pub use Rattle.json.specs.Json.{Json}
pub use Rattle.json.specs.Tree.{HasNumbers}
pub use Rattle.json.specs.Value.{value_view}
