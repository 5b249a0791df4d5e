use Rattle.fbl_verdicts.proofs.Common.{ℕ, ◌≡◌, ◌∙◌, inl, inr, arith, sym, subst, cases_eq}
use Rattle.fbl_runs.specs.Clocks.{cut_of}
use Rattle.fbl_runs.specs.Entries.{log_of}
use Rattle.std.proofs.lemmas.Bool.{cases_lt}
use Rattle.fbl_judge.proofs.Places.{number_within}
use Rattle.fbl_judge.proofs.ReasonLaws.{no_entries}
use Rattle.fbl_verdicts.specs.UndoneReasons.{IsCountAt}
use Rattle.fbl_verdicts.proofs.Cuts.{reached_own, reached_other}
use Rattle.fbl_verdicts.proofs.UndoneLaws.{none_of}
use Rattle.fbl_verdicts.proofs.undone_text.moment_of.Goals as goal

pub loop-number-preserved : goal.loop-number-preserved
loop-number-preserved c = record {
  below = λ r q at_r before. elim (cases_eq q c.loop-number.number) [
    | inl same ↦
        let member : c.at-member.result ≡ q = c.at-member.ensures ∙ sym same in
        let own = reached_own old new c.at-member.result c.count_at.result c.reaching-moment.ensures in
        let zero = c.loop-number.invariant.above c.at-member.result (let is = c.at-member.ensures in omega (arith, is)) in
        let count : c.count_at.result ≡ new c.at-member.result = omega (arith, own, zero) in
        subst (λ (m : ℕ). IsCountAt (log_of c.args.pasts.now.entries) r m (new m)) member
        (subst (λ (n : ℕ). IsCountAt (log_of c.args.pasts.now.entries) r c.at-member.result n) count (c.count_at.ensures r at_r))
    | inr ne ↦
        let other = reached_other old new c.at-member.result c.count_at.result c.reaching-moment.ensures q (λ same. ne (same ∙ c.at-member.ensures)) in
        subst (λ (n : ℕ). IsCountAt (log_of c.args.pasts.now.entries) r q n) (sym other) (c.loop-number.invariant.below r q at_r (omega (arith, before, ne)))
  ];
  above = λ q past. (
      let other = reached_other old new c.at-member.result c.count_at.result c.reaching-moment.ensures q (λ same. (let is = same ∙ c.at-member.ensures in omega (arith, past, is))) in
      let zero = c.loop-number.invariant.above q (omega (arith, past)) in
      omega (arith, other, zero));
} where
  old : ℕ → ℕ
  old = cut_of c.loop-number.moment

  new : ℕ → ℕ
  new = cut_of c.reaching-moment.result

pub returns : goal.returns
returns c r at_r q = elim (cases_lt q 16) [
  | inl less ↦ c.loop-number.invariant.below r q at_r (let end = c.loop-number-test.false in omega (arith, less, end))
  | inr past ↦
      let run = c.args.pasts.now in
      let zero = c.loop-number.invariant.above q (let end = c.loop-number.auto.number-end in omega (arith, past, end)) in
      none_of (log_of run.entries) r q (cut_of c.loop-number.moment q) (number_within run.entries c.args.restart r at_r) (no_entries run.members run.entries c.run-run.ensures.rules.lawful q past) zero
]
