use Rattle.fbl_runs.proofs.Common.{arith, false≢true, sym, slice_get_within, ◌∙◌}
use Rattle.std.proofs.Common.{below_more}
use Rattle.fbl_runs.proofs.lives.Lives.life_number.Goals as goal

pub returns-then-is_life : goal.returns-then-is_life
returns-then-is_life c = c.is_life.ensures.0 c.if-is_life.true

pub returns-then-is_life-2 : goal.returns-then-is_life-2
returns-then-is_life-2 c = c.is_life-in-loop-number.ensures.0 c.if-is_life-2.true

pub loop-number-preserved : goal.loop-number-preserved
loop-number-preserved c = below_more _ c.loop-number.number c.loop-number.invariant (λ is. false≢true (sym c.if-is_life-2.false ∙ c.is_life-in-loop-number.ensures.1 is))

pub returns : goal.returns
returns c number is =
    let within = slice_get_within c.args.self.now.lives.items number is.0 is.1 in
    c.loop-number.invariant number (let past = c.loop-number-test.false in omega (arith, within, past)) is
