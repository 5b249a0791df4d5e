use Rattle.fbl_judge.proofs.Common.{Option, Position, Some, StandsAt, arith, cases_lt, inl, inr, log_of, subst, sym, ◌+◌, ◌<◌, ◌≡◌, ◌∙◌}
use Rattle.std.specs.Prelude.{IfSome}
use Rattle.fbl_runs.specs.Clocks.{cut_of}
use Rattle.fbl_runs.specs.Logs.{run_of}
use Rattle.fbl_judge.specs.declared.check.Candidate.{Candidate}
use Rattle.fbl_judge.specs.Candidates.{IsFirstAmong, IsFirstOf, IsOfLesser, IsOfMember}
use Rattle.fbl_judge.proofs.DependLaws.{receipt_at}
use Rattle.fbl_judge.proofs.UnsafeLaws.{first_of_two, first_wider}
use Rattle.fbl_judge.proofs.StrikeLaws.{first_if_least}
use Rattle.fbl_judge.proofs.check.first_struck.Goals as goal
use Rattle.fbl_judge.proofs.check.first_struck.Goals.{After-is_struck_within, then-replaces, else-replaces}

-- with one member more it is the first, and its orphan is one of these
first_of_more : (c : After-is_struck_within) (i : Position) → StandsAt c.args.pasts.now.entries c.args.place i
    → IsFirstAmong (run_of c.args.pasts.now) i c.args.determinant.now (IsOfLesser (log_of c.args.pasts.now.entries) (cut_of c.args.view.now.base) (c.loop-number.number + 1)) c.if-replaces.first
first_of_more c i stands =
    let run = c.args.pasts.now in
    let d = c.args.determinant.now in
    let logs = log_of run.entries in
    let base = cut_of c.args.view.now.base in
    let member = c.at.ensures in
    let first : (r : Option Candidate) → IsFirstOf c.loop-number.first c.candidate_of-next.result r → IsFirstAmong (run_of run) i d (IsOfLesser logs base (c.loop-number.number + 1)) r =
    λ r is. first_of_two run c.requires.run.lawful c.requires.run.strike i d (receipt_at run.entries c.args.place d i c.requires.receipt stands)
    (IsOfLesser logs base c.loop-number.number) (IsOfMember logs base c.at.result) (IsOfLesser logs base (c.loop-number.number + 1))
    (λ q cut is. elim (cases_lt q c.loop-number.number) [ inl less ↦ inl (less, is.1) | inr last ↦ inr ((let below = is.0 in omega (arith, below, last, member)), is.1) ])
    c.loop-number.first c.candidate_of-next.result r (c.loop-number.invariant.first i stands) (c.candidate_of-next.ensures.first i stands) is in
    elim c.if-replaces.branch [
      | then-replaces w ↦ rw w.first-is (first c.candidate_of-next.result (c.replaces.ensures.yes w.if-replaces.true))
      | else-replaces w ↦ rw w.first-is (first c.loop-number.first (c.replaces.ensures.no w.if-replaces.false))
    ]

below_more : (c : After-is_struck_within) (x : Candidate) → c.if-replaces.first ≡ Some x → x.orphan < c.loop-number.number + 1
below_more c x is = elim c.if-replaces.branch [
  | then-replaces w ↦
      let orphan = subst (λ (o : Option Candidate). IfSome o (λ candidate. candidate.orphan ≡ c.at.result)) (sym w.first-is ∙ is) c.candidate_of-next.ensures.orphan in
      (let member = c.at.ensures in omega (arith, orphan, member))
  | else-replaces w ↦ (let below = c.loop-number.invariant.below x (sym w.first-is ∙ is) in omega (arith, below))
]

pub loop-number-preserved : goal.loop-number-preserved
loop-number-preserved c =
    let at = (goal.at.loop-number-preserved c).After-is_struck_within in
    record { first = first_of_more at; below = below_more at }

pub returns-then-is_struck_within : goal.returns-then-is_struck_within
returns-then-is_struck_within c i stands =
    let at = (goal.at.returns-then-is_struck_within c).After-is_struck_within in
    let run = c.args.pasts.now in
    let d = c.args.determinant.now in
    first_if_least run c.requires.run.lawful c.requires.run.strike i d (cut_of c.args.view.now.base) (c.loop-number.number + 1)
    c.args.least (c.requires.least i stands) c.if-replaces.first (first_of_more at i stands) (below_more at) (c.is_struck_within.ensures.0 c.if-is_struck_within.true)

pub returns : goal.returns
returns c i stands =
    let run = c.args.pasts.now in
    let d = c.args.determinant.now in
    let logs = log_of run.entries in
    let base = cut_of c.args.view.now.base in
    first_wider run c.requires.run.lawful c.requires.run.strike i d (receipt_at run.entries c.args.place d i c.requires.receipt stands)
    (IsOfLesser logs base c.loop-number.number) (IsOfLesser logs base 16) (λ q cut members is candidate. ((let below = is.0 in let t = c.loop-number-test.false in omega (arith, below, t)), is.1)) c.loop-number.first (c.loop-number.invariant.first i stands)
