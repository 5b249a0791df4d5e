use Rattle.fbl_pictures.proofs.Common.{ℕ, ◌==◌, ◌≡◌, ◌∙◌, Option, ap, arith, cases_eq, cond, column_in, inl, inr, subst, sym}
use Rattle.fbl_pictures.proofs.Crossing.{put_kept, put_same}
use Rattle.fbl_pictures.specs.RunShapes.{IsStart}
use Rattle.fbl_pictures.proofs.run.finding.Finding.starts.Goals as goal

pub loop-number-init : goal.loop-number-init
loop-number-init c q below = absurd (omega (arith, below))

pub loop-number-preserved : goal.loop-number-preserved
loop-number-preserved c q below =
    let run = c.args.pasts.now in
    let n = c.loop-number.number in
    let old = c.loop-number.starts in
    let new = c.put.new.self in
    let start = c.start.result in
    let sets : (k : ℕ) → column_in new k ≡ cond (k == n) start (column_in old k) = λ k. c.put.ensures k ∙ ap (λ m. cond (k == m) start (column_in old k)) c.at-member.ensures in
    elim (cases_eq q n) [
      | inl same ↦
          let at = subst (λ (m : ℕ). IsStart run c.args.self.now m start) (c.at-member.ensures ∙ sym same) c.start.ensures in
          subst (λ (o : Option ℕ). IsStart run c.args.self.now q o) (sym (put_same old new n start sets q same)) at
      | inr apart ↦
          subst (λ (o : Option ℕ). IsStart run c.args.self.now q o) (sym (put_kept old new n start sets q apart)) (c.loop-number.invariant q (omega (arith, below, apart)))
    ]

pub returns : goal.returns
returns c q below = c.loop-number.invariant q (omega (arith, below))
