use Rattle.fbl_group.proofs.Common.{◌≡◌, Some, take_refusal, flight_at, arith, ap, nat_tests, receipts_fit, up_if_none, MemberRecord, empty_of_len}
use Rattle.fbl_group.specs.declared.refusals.TakeRefusal.TheVariants.{Down}
use Rattle.fbl_group.proofs.group.Group.take.Goals as goal

pub overflow_add-result : goal.overflow_add-result
overflow_add-result g c =
    let fits = receipts_fit g.B.Behaviour.next _ c.record-member.ensures.sound c.args.to (omega arith) (up_if_none (empty_of_len c.args.self.now.down (grind arith)) c.args.to) in
    omega (arith, c.received.ensures.value, ap (λ (m : MemberRecord _ _). m.received) c.record-member.ensures.value, fits, c.record-member.ensures.sound.room, c.record-member.ensures.sound.config.limit.1)

pub returns-clause-taken : goal.returns-clause-taken
returns-clause-taken g c =
    (grind (arith, nat_tests), (c.in-Some.wire.now, c.in-Some.ensures.some, grind (arith, flight_at c.record-member.ensures.sound.causes c.args.from c.args.to 0 c.in-Some.wire.now c.in-Some.ensures.some)))

pub returns-then-count-ne0-clause-refused : goal.returns-then-count-ne0-clause-refused
returns-then-count-ne0-clause-refused g c = let down : take_refusal c.args.self.now c.args.to c.args.from ≡ Some Down = grind (arith, nat_tests) in down
