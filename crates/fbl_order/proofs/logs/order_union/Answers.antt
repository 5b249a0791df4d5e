use Rattle.fbl_order.proofs.Common.{slice_get_within}
use Rattle.fbl_order.proofs.logs.order_union.Goals as goal

pub items_at-requires : goal.items_at-requires
items_at-requires c k p there =
    let e = c.in-Ok.ensures.places.each k p (rw c.as_slice-in-Ok.ensures.value at there) in
    rw (c.as_slice.ensures.value, c.requires) (slice_get_within c.args.whole.run.entries.items p e.0 e.2)
