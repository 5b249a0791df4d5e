use Rattle.fbl_play.proofs.Common.{◌≡◌, ◌<◌, arith, get_or, length, sym, ◌∙◌}
use Rattle.fbl_play.proofs.Losses.{is_other, is_same, parted_passed, parted_pushed}
use Rattle.fbl_play.proofs.commands.newly_lost.Goals.{then-passed-before+then-eq, else-passed-before+in_ok-push, else-passed-before-via-then-passed-before+else-eq, else-passed-before-via-else-passed-before}
use Rattle.fbl_play.proofs.commands.newly_lost.Goals as goal

pub loop-receipt-preserved : goal.loop-receipt-preserved
loop-receipt-preserved c = elim c.if-passed-before.branch [
  | then-passed-before+then-eq w ↦
      let same = is_same c.args.before.now c.loop-receipt.passed c.receipt-item.result _ w.if-passed-before.true w.index-before-passed.is (sym w.eq.ensures ∙ w.if-eq.true) in
      rw (w.lost-is, w.passed-is) (parted_passed _ _ _ _ _ _ c.loop-receipt-test.true c.receipt-item.is c.loop-receipt.invariant w.if-passed-before.true same)
  | else-passed-before+in_ok-push w ↦
      let other : c.loop-receipt.passed < length c.args.before.now → get_or c.args.before.now c.loop-receipt.passed c.receipt-item.result ≡ c.receipt-item.result → ⊥ = elim w.else-passed-before.branch [
        | else-passed-before-via-then-passed-before+else-eq o ↦
            is_other c.args.before.now c.loop-receipt.passed c.receipt-item.result _ o.index-before-passed.is (sym o.eq.ensures ∙ o.if-eq.false)
        | else-passed-before-via-else-passed-before o ↦ λ more same. absurd (omega (arith, more, o.if-passed-before.false))
      ] in
      rw (w.lost-is, w.passed-is, w.in_ok-push.ensures.items) (parted_pushed _ _ _ _ _ _ c.loop-receipt-test.true c.receipt-item.is c.loop-receipt.invariant other)
]
