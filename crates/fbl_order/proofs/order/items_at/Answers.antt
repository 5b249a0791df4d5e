use Rattle.fbl_order.proofs.Common.{ℕ, Some, ◌≡◌, ◌∙◌, add-one, get_or, refl, slice_get, slice_get-get_or, slice_get_read, sym, take, take-more, take_all}
use Rattle.fbl_order.proofs.MergeLaws.{items_at-push}
use Rattle.fbl_order.proofs.order.items_at.Goals as goal

pub loop-place-preserved : goal.loop-place-preserved
loop-place-preserved g c =
    let items = c.args.items.now in
    let places = c.args.places.now in
    let k : ℕ = c.loop-place.place-index in
    let p : ℕ = get_or places k 0 in
    let there = slice_get-get_or places k 0 c.loop-place-test.true in
    let at : slice_get items p ≡ Some c.index-items-place.result = slice_get_read items _ p _ refl (c.requires k p there) c.index-items-place.is in
    c.in_ok-push.ensures.items ∙ (rw (c.loop-place.invariant, add-one, take-more places k p there) (sym (items_at-push items (take k places) p _ at)))

pub returns : goal.returns
returns g c = rw (take_all c.loop-place.place-index c.args.places.now c.loop-place-test.false) at c.loop-place.invariant

pub bounds-items-place : goal.bounds-items-place
bounds-items-place g c = c.requires c.loop-place.place-index (get_or c.args.places.now c.loop-place.place-index 0) (slice_get-get_or c.args.places.now
    c.loop-place.place-index 0 c.loop-place-test.true)
