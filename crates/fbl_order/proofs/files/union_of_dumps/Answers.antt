use Rattle.fbl_order.proofs.Common.{refl, sym, slice_get_read, take_all, ◌∙◌}
use Rattle.fbl_order.proofs.FileLaws.{flat_map-more}
use Rattle.fbl_order.proofs.files.union_of_dumps.Goals as goal

pub loop-file-preserved : goal.loop-file-preserved
loop-file-preserved c =
    let kept = c.loop-file.invariant in
    let at = slice_get_read _ _ c.loop-file.file-index _ refl c.loop-file-test.true c.file-item.is in
    record {
      events = c.in_ok-extend_from_slice.ensures.items ∙ (rw (kept.events, c.as_slice.ensures.value)
          (sym (flat_map-more (λ part. part.events.items) c.args.files.now c.loop-file.file-index c.file-item.result at)));
      held =
          c.in_ok-extend_from_slice-2.ensures.items
          ∙ (rw (kept.held, c.as_slice-in-loop-file.ensures.value) (sym (flat_map-more
          (λ part. part.held.items) c.args.files.now c.loop-file.file-index c.file-item.result at)));
    }

pub returns-clause-union : goal.returns-clause-union
returns-clause-union c =
    let all = take_all c.loop-file.file-index c.args.files.now c.loop-file-test.false in
    record {
      group = c.in_ok-members.ensures.union;
      events = rw all at c.loop-file.invariant.events;
      held = rw all at c.loop-file.invariant.held;
    }
