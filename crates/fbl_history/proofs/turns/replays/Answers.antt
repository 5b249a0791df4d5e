use Rattle.std.proofs.Common.{append_assoc}
use Rattle.fbl_trace.specs.MemberSets.{member_list}
use Rattle.fbl_history.proofs.Common.{◌≡◌, ◌≤◌, ◌+◌, ◌-◌, suc, arith, append-nil, refl, ap}
use Rattle.fbl_history.proofs.Following.{none-listed}
use Rattle.fbl_history.proofs.turns.replays.Goals as goal

pub loop-number-init : goal.loop-number-init
unfolding member_list
loop-number-init g c = rw c.new-replays.ensures.items refl

pub loop-number-preserved : goal.loop-number-preserved
loop-number-preserved g c =
    let more : 16 - c.loop-number.number ≡ suc (16 - (c.loop-number.number + 1)) = omega (arith, c.loop-number-test.true, c.members-number-end.ensures.value, c.members-number-end.ensures.rules.members.1) in
    let so_far = (rw more at c.loop-number.invariant) in
    elim c.if-has.branch [ goal.then-has+in_ok-push w ↦ grind (arith, so_far, append_assoc) | goal.else-has w ↦ grind (arith, so_far) ]

pub returns : goal.returns
returns g c =
    let past : c.args.group.now.config.members ≤ c.loop-number.number = omega (arith, c.loop-number-test.false, c.members-number-end.ensures.value, ap (λ x. x.members) c.config.ensures) in
    let none = none-listed c.args.members c.args.group.now.config.members c.loop-number.number (16 - c.loop-number.number) c.requires past in
    (rw (none, append-nil) at c.loop-number.invariant)
