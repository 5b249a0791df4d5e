use Rattle.fbl_turns.proofs.Common.{arith, below_more, refl}
use Rattle.fbl_turns.specs.Turns.{IsFirstTicket, NoTicket}
use Rattle.fbl_turns.proofs.counted_group.CountedGroup.take_first.Goals as goal

pub returns-in-Ok : goal.returns-in-Ok
returns-in-Ok g c =
    let first : IsFirstTicket c.args.self.now.group c.member-to.result c.in-Ok.ticket =
    (c.at-from.result, c.in-Ok.ensures.taken.0, λ k below. c.loop-number.invariant k (rw c.at-from.ensures at below), c.in-Ok.ensures.taken.1) in
    record { taken = (refl, rw c.member-to.ensures at first); none = tt }

pub loop-number-preserved : goal.loop-number-preserved
loop-number-preserved g c = below_more _ c.loop-number.number c.loop-number.invariant (λ may. (let refused = rw c.at-from.ensures at c.in_default.ensures.refused in cc))

pub returns : goal.returns
returns g c =
    let none : NoTicket c.args.self.now.group c.member-to.result =
    λ k below. c.loop-number.invariant k (let n = rw c.config.ensures at c.members-number-end.ensures.value in omega (arith, below, n, c.loop-number-test.false)) in
    record { taken = tt; none = (c.release.ensures, rw c.member-to.ensures at none) }
