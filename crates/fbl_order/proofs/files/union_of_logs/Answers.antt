use Rattle.fbl_order.proofs.Common.{ℕ, Some, ◌≡◌, ◌<◌, ◌∙◌, length, refl, slice_get, sym}
use Rattle.fbl_order.proofs.PieceLaws.{items_at-length, lengths_alike, within_given}
use Rattle.fbl_order.proofs.files.union_of_logs.Goals as goal

pub places_by_life-requires : goal.places_by_life-requires
places_by_life-requires c = rw (c.as_slice-2.ensures.value, c.as_slice.ensures.value, c.in_ok-lives.ensures, c.in_ok-given.ensures) (lengths_alike c.args.files.now)

pub items_at-requires : goal.items_at-requires
items_at-requires c k p there =
    let here = rw c.as_slice-4.ensures.value at there in
    let below = within_given c.as_slice.result.now c.in_ok-places.places.items c.in_ok-places.ensures.all k p here in
    rw c.as_slice-3.ensures.value (rw c.as_slice.ensures.value at below)

pub returns-clause-union : goal.returns-clause-union
returns-clause-union c = record {
  group = c.in_ok-members.ensures.union;
  by_life = rw (c.as_slice.ensures.value, c.as_slice-2.ensures.value, c.in_ok-given.ensures, c.in_ok-lives.ensures) at c.in_ok-places.ensures;
  entries = c.in_ok-entries.ensures ∙ (rw (c.as_slice-3.ensures.value, c.as_slice-4.ensures.value, c.in_ok-given.ensures) refl);
}

pub returns-clause-count : goal.returns-clause-count
returns-clause-count c =
    let given = c.in_ok-given.given.items in
    let places = c.in_ok-places.places.items in
    let within : (k p : ℕ) → slice_get places k ≡ Some p → p < length given = (λ k p here.
    rw c.as_slice.ensures.value at (within_given c.as_slice.result.now places c.in_ok-places.ensures.all k p here)) in
    rw (c.in_ok-entries.ensures, c.as_slice-3.ensures.value, c.as_slice-4.ensures.value) (sym (items_at-length given places within))
