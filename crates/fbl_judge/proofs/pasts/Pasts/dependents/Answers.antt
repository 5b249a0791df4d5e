use Rattle.fbl_judge.proofs.Common.{DependsAt, arith, cases_lt, false, inl, inr, log_of, refl, sym, true, ℕ, ◌∙◌}
use Rattle.fbl_runs.specs.Clocks.{cut_of}
use Rattle.fbl_judge.proofs.MemberLaws.{found_more, found_none}
use Rattle.fbl_judge.proofs.ViewLaws.{nobody_beyond}
use Rattle.fbl_judge.proofs.pasts.Pasts.dependents.Goals as goal
use Rattle.fbl_judge.proofs.pasts.Pasts.dependents.Goals.{then-depends_at, else-depends_at}

pub loop-number-init : goal.loop-number-init
loop-number-init c i stands = found_none (λ q. DependsAt (log_of c.args.self.now.entries) (cut_of c.args.moment.now) i q) c.empty-dependents.result c.empty-dependents.ensures

pub loop-number-preserved : goal.loop-number-preserved
loop-number-preserved c i stands =
    let P : ℕ → Type 0 = λ q. DependsAt (log_of c.args.self.now.entries) (cut_of c.args.moment.now) i q in
    let test = c.depends_at.ensures i stands in
    elim c.if-depends_at.branch [
      | then-depends_at w ↦ found_more P c.loop-number.dependents c.if-depends_at.dependents c.loop-number.number c.at-member.result true
          c.at-member.ensures (λ _. test.0 w.if-depends_at.true, λ _. refl) (w.dependents-is ∙ w.with-dependents.ensures) (c.loop-number.invariant i stands)
      | else-depends_at w ↦ found_more P c.loop-number.dependents c.if-depends_at.dependents c.loop-number.number c.at-member.result false
          c.at-member.ensures (λ h. cc, λ h. sym w.if-depends_at.false ∙ test.1 h) w.dependents-is (c.loop-number.invariant i stands)
    ]

pub returns : goal.returns
returns c i stands q = (
  λ h. ((c.loop-number.invariant i stands q).0 h).1,
  λ h. (c.loop-number.invariant i stands q).1 (
    elim (cases_lt q 16) [
      | inl below ↦ (let t = c.loop-number-test.false in omega (arith, below, t))
      | inr past ↦ absurd (
          let run = c.args.self.now in
          let none = nobody_beyond run.members run.entries c.run-run.ensures.rules.lawful q past in
          let within = c.requires.within q in
          let less = h.2.0 in
          omega (arith, none, within, less))
    ],
    h,
  ),
)
