use Rattle.fbl_group.proofs.Recovering.{◌≡◌, sym, ap, ◌∙◌, deque_items, length-map, working, sent_again, made_none, made-mapped, all-done, arith}
use Rattle.fbl_group.proofs.group.Group.resend_from.Goals as goal

pub loop-number-init : goal.loop-number-init
loop-number-init g c = record { made = rw c.new-row.ensures.items (made_none _ _); passed = tt }

pub loop-number-preserved : goal.loop-number-preserved
loop-number-preserved g c =
    let wanted = sent_again c.args.self.now.config.f c.args.self.now.down (working c.args.self.now c.args.rebuilt.now) c.args.from in
    record {
      made =
          rw c.in_ok-push.ensures.items (made-mapped deque_items {Wanted = λ p channel. channel ≡ wanted p} _ _ c.loop-number.invariant.made (c.in_ok-resend_on.ensures.made ∙ ap wanted c.at-to.ensures));
      passed = c.resend_on.ensures.passed;
    }

pub returns : goal.returns
returns g c =
    let made = c.loop-number.invariant.made in
    let all = all-done c.loop-number-test.false c.loop-number.auto.number-end c.size-number-end.ensures.value in
    record { size = c.loop-number.row.ok.0 ∙ sym (length-map c.loop-number.row.items deque_items) ∙ made.size ∙ all; each = λ p below. made.each p (rw all below) }

pub resend_on-requires : goal.resend_on-requires
resend_on-requires g c = record { size = c.requires.size; from = c.requires.from; to = omega (arith, c.at-to.ensures, c.loop-number-test.true, c.size-number-end.ensures.value); passed = c.loop-number.invariant.passed }
