use Rattle.fbl_channels.proofs.Common.{◌≡◌, arith, map-append, replicate_more}
use Rattle.fbl_channels.proofs.channels.empty_channels.Goals as goal

pub returns : goal.returns
returns g c = let all : c.loop-number._number ≡ c.args.n = omega arith in rw all at c.loop-number.invariant

pub loop-number-preserved : goal.loop-number-preserved
loop-number-preserved g c = rw (c.in_ok-push.ensures.items, map-append, c.loop-number.invariant, c.in_ok-empty_row.ensures) (replicate_more _ _)
