use Rattle.fbl_group.proofs.Recovering.{map, sym, ap, ◌∙◌, deque_items, length-map, working, sent_again, made_none, made-mapped, all-done, arith}
use Rattle.fbl_group.proofs.group.Group.resend.Goals as goal

pub loop-number-init : goal.loop-number-init
loop-number-init g c = rw c.new-rows.ensures.items (made_none _ _)

pub loop-number-preserved : goal.loop-number-preserved
loop-number-preserved g c =
    rw c.in_ok-push.ensures.items (made-mapped (λ row. map deque_items row.items) _ _ c.loop-number.invariant (
      length-map c.in_ok-resend_from.field-0.items deque_items ∙ sym c.in_ok-resend_from.field-0.ok.0 ∙ c.in_ok-resend_from.ensures.size,
      λ p below. c.in_ok-resend_from.ensures.each p below
          ∙ ap (λ k. sent_again c.args.self.now.config.f c.args.self.now.down (working c.args.self.now c.args.rebuilt.now) k p) c.at-from.ensures,
    ))

pub returns : goal.returns
returns g c =
    let made = c.loop-number.invariant in
    let all = all-done c.loop-number-test.false c.loop-number.auto.number-end c.size-number-end.ensures.value in
    rw c.of_rows.ensures (record {
      shape = record { senders = made.size ∙ all; receivers = λ q below. (made.each q (rw all below)).0 };
      each = λ q p below_q below_p. (made.each q (rw all below_q)).1 p below_p;
    })

pub resend_from-requires : goal.resend_from-requires
resend_from-requires g c = record { size = c.requires; from = omega (arith, c.at-from.ensures, c.loop-number-test.true, c.size-number-end.ensures.value) }
