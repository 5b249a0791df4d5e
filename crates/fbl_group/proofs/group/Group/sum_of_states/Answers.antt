use Rattle.fbl_group.proofs.Common.{◌≡◌, arith, add-one, contains}
use Rattle.fbl_group.proofs.group.Group.sum_of_states.Goals as goal

pub loop-number-preserved : goal.loop-number-preserved
loop-number-preserved g c =
    let asked : contains c.args.self.now.down c.loop-number.number ≡ c.has.result = cc in
    elim c.if-not-has.branch [
      | goal.then-not-has w ↦
          rw (w.sum-is, add-one) (record {
            summed = rw (asked, w.if-not-has.true) (omega (arith, c.loop-number.invariant.summed, (rw c.at-member.ensures at w.state.ensures.value), w.from-sum.ensures));
            bound = omega (arith, c.loop-number.invariant.bound, w.from-sum.ensures, w.state.type_inv);
          })
      | goal.else-not-has w ↦
          rw (w.sum-is, add-one) (record {
            summed = rw (asked, w.if-not-has.false) (omega (arith, c.loop-number.invariant.summed));
            bound = omega (arith, c.loop-number.invariant.bound);
          })
    ]

pub returns : goal.returns
returns g c =
    let all : c.loop-number.number ≡ c.args.self.now.config.members = rw (← c.self.view_is) (omega (arith, c.loop-number-test.false, c.loop-number.auto.number-end, c.members-number-end.ensures.value)) in
    record { value = rw all at c.loop-number.invariant.summed; bound = omega (arith, c.loop-number.invariant.bound, c.loop-number.auto.number-end, c.members-number-end.ensures.value, c.self.invariant.config.members.1) }

pub state-requires : goal.state-requires
state-requires g c = rw (← c.self.view_is) (omega (arith, c.at-member.ensures, c.loop-number-test.true, c.members-number-end.ensures.value))
