use Rattle.fbl_group.proofs.Recovering.{◌∙◌, arith, refl, set-get_or, read_at}
use Rattle.fbl_group.proofs.delivery.take_in.Goals as goal

pub returns-in_err-made-clause-unchanged : goal.returns-in_err-made-clause-unchanged
returns-in_err-made-clause-unchanged g c = grind (arith, c.in_err-made.ensures.unchanged, c.index_mut-member.ensures.value, set-get_or c.args.members.now.items c.from.result)

pub returns-clause-taken : goal.returns-clause-taken
returns-clause-taken g c =
    let is = read_at (g.B.Behaviour.next.initial 0 0) c.args.members.now.items (c.from.ensures ∙ c.number.ensures.value) (omega (arith, c.requires.place, c.args.members.now.ok.0)) c.index_mut-member.ensures.value in
    record {
      members = rw (c.from.ensures, c.number.ensures.value, c.in_ok-made.ensures.received, is) refl;
      numbered = c.received-rsn.ensures.value ∙ rw (c.in_ok-made.ensures.received, is) refl;
      sent = rw (c.in_ok-made.ensures.received, is) at c.in_ok-made.ensures.sent;
    }
