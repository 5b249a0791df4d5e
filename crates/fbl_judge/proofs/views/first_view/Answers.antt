use Rattle.fbl_judge.proofs.Common.{arith, refl}
use Rattle.fbl_judge.proofs.ViewLaws.{views_none, zeros_16}
use Rattle.fbl_judge.proofs.views.first_view.Goals as goal

pub returns : goal.returns
returns c =
    views_none c.requires.0 c.args.index.now c.requires.1 _ c.none.ensures (λ q below. zeros_16 q) (λ q below. c.loop-number.invariant.each q (let t = c.loop-number-test.false in omega (arith, t, below))) (λ q below. zeros_16 q) refl
