use Rattle.fbl_order.proofs.Common.{◌≡◌, refl, arith, slice_get_read, slice_get_within}
use Rattle.fbl_trace.proofs.Common.{below_more}
use Rattle.fbl_order.proofs.files.first_outsider.Goals as goal

pub returns-in-Some : goal.returns-in-Some
returns-in-Some c =
    let at = slice_get_read _ _ c.loop-file.file _ refl c.loop-file-test.true c.index-strikes-file.is in
    let least = c.in-Some.ensures in (
      (c.loop-file.invariant, λ all. (let below = all _ at _ least.0 in omega (arith, below, least.1.2))),
      (c.index-strikes-file.result, at, least),
    )

pub loop-file-preserved : goal.loop-file-preserved
loop-file-preserved c =
    let at = slice_get_read _ _ c.loop-file.file _ refl c.loop-file-test.true c.index-strikes-file.is in
    below_more _ _ c.loop-file.invariant (λ s there. (let same : c.index-strikes-file.result ≡ s = cc in rw (← same) c.in_default.ensures))

pub returns : goal.returns
returns c i s there = c.loop-file.invariant i (omega (arith, c.loop-file-test.false, slice_get_within c.args.strikes.now i s there)) s there
