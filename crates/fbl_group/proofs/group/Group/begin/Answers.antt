use Rattle.fbl_group.proofs.Recovering.{arith, made-more, ap, ◌∙◌, List, Entry, member_checkpoint, made_none, all-done, begun, none-replayed}
use Rattle.fbl_group.proofs.group.Group.begin.Goals as goal

pub loop-number-init : goal.loop-number-init
loop-number-init g c = record { made = rw c.requires.empty (made_none _ _); left = λ p past down. c.requires.gathered }

pub loop-number-preserved : goal.loop-number-preserved
loop-number-preserved g c =
    let so_far = c.loop-number.invariant in
    let begins = rw c.at-member.ensures at c.in_ok-begin_one.ensures.begun in
    record {
      made = rw c.in_ok-push.ensures.items (made-more _ _ _ _ _ so_far.made (λ down.
          begins down ∙ ap (λ (t : List Entry). record (member_checkpoint c.args.self.now c.loop-number.number) { table = t }) (so_far.left c.loop-number.number (omega arith) down)));
      left = λ p past down. c.begin_one.ensures.left p (omega (arith, past, c.at-member.ensures)) down ∙ so_far.left p (omega (arith, past)) down;
    }

pub returns : goal.returns
returns g c = let all = all-done c.loop-number-test.false c.loop-number.auto.number-end c.size-number-end.ensures.value in record { replaying = begun c.recoverable.ensures.sound all c.loop-number.invariant.made; none = none-replayed c.recoverable.ensures.sound all c.loop-number.invariant.made }
