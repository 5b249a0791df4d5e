use Rattle.fbl_order.proofs.Common.{Entry, Some, ◌≡◌, ◌∙◌, ap, slice_get, slice_get-get_or, slice_get_within, subst, sym}
use Rattle.fbl_order.proofs.EntryTests.{same, same_self, same_true}
use Rattle.fbl_trace.proofs.Common.{get_or_from_slice_get}
use Rattle.std.proofs.lemmas.List.Folds.{Any-from_list_any, list_any_at}
use Rattle.fbl_order.proofs.merge.has_entry.Goals as goal

pub returns : goal.returns
returns c =
    let entries = c.args.entries.now in
    let wanted = c.args.wanted.now in (
      λ is.
          let any = Any-from_list_any (λ (y : Entry). same y wanted) entries (sym c.contains.ensures.value ∙ is) in
          let at = subst (λ (x : Entry). slice_get entries any.0 ≡ Some x) any.3 (slice_get-get_or entries any.0 any.1 any.2) in
          (any.0, at ∙ ap Some (same_true any.1 wanted any.4)),
      λ has. c.contains.ensures.value
          ∙ list_any_at (λ (y : Entry). same y wanted) entries has.0 wanted (slice_get_within entries has.0 wanted has.1)
          (ap (λ (y : Entry). same y wanted) (get_or_from_slice_get entries has.0 wanted wanted has.1) ∙ same_self wanted),
    )
