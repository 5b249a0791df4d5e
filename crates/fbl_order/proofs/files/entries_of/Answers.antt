use Rattle.fbl_order.proofs.Common.{refl, sym, slice_get_read, take_all, ◌∙◌}
use Rattle.fbl_order.proofs.FileLaws.{flat_map-more}
use Rattle.fbl_order.proofs.files.entries_of.Goals as goal

pub loop-file-preserved : goal.loop-file-preserved
loop-file-preserved c =
    let at = slice_get_read _ _ c.loop-file.file-index _ refl c.loop-file-test.true c.file-item.is in
    c.in_ok-extend_from_slice.ensures.items ∙ (rw (c.loop-file.invariant, c.as_slice.ensures.value)
    (sym (flat_map-more (λ part. part.entries.items) c.args.files.now c.loop-file.file-index c.file-item.result at)))

pub returns : goal.returns
returns c = rw (take_all c.loop-file.file-index c.args.files.now c.loop-file-test.false) at c.loop-file.invariant
