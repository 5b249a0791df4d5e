use Rattle.fbl_verdicts.proofs.Common.{ℕ, ◌≡◌, ◌∙◌, inl, inr, Some, None, arith, ap, sym, subst, refl, cases_eq, false≢true}
use Rattle.fbl_trace.proofs.Common.{slice_get, slice_get_within}
use Rattle.std.proofs.lemmas.Option.{get_or_from_slice_get}
use Rattle.fbl_judge.proofs.Places.{position_at}
use Rattle.fbl_runs.specs.Clocks.{StandsAt}
use Rattle.fbl_verdicts.proofs.OverviewLaws.{some_at}
use Rattle.fbl_verdicts.proofs.overview.is_first.Goals as goal
use Rattle.fbl_verdicts.proofs.overview.is_first.Goals.{in-Some+else-other-place, in_default}
use Rattle.fbl_verdicts.proofs.overview.is_first.Goals.{else-other-place-via-then-other-place+else-precedes, else-other-place-via-else-other-place}

pub returns-then-precedes : goal.returns-then-precedes
returns-then-precedes c = (
  λ no. absurd (false≢true no),
  λ none.
      let es = c.args.pasts.now.entries in
      let other = c.in-Some.other in
      let n = c.loop-other.other-index in
      let here = some_at c.args.others.now n other c.in-Some.is in
      let i = position_at es other (c.requires.others n other here) in
      let j = position_at es c.args.place c.requires.place in
      let before = (c.precedes.ensures i.0 j.0 i.1 j.1).0 c.if-precedes.true in
      absurd (c.if-other-place.true (none n other here (i.0, j.0, i.1, j.1, before))),
)

pub loop-other-preserved : goal.loop-other-preserved
loop-other-preserved c member other below at_other before = elim (cases_eq member c.loop-other.other-index) [
  | inr ne ↦ c.loop-other.invariant member other (omega (arith, below, ne)) at_other before
  | inl same ↦
      let others = c.args.others.now in
      let here = get_or_from_slice_get others c.loop-other.other-index (Some other) None (ap (slice_get others) (sym same) ∙ at_other) in
      elim c.match-other.branch [
        | in-Some+else-other-place w ↦
            let both : Some other ≡ Some w.in-Some.other = sym here ∙ w.in-Some.is in
            let is : other ≡ w.in-Some.other = cc in
            elim w.else-other-place.branch [
              | else-other-place-via-then-other-place+else-precedes w' ↦
                  let stands = subst (λ (p : ℕ). StandsAt c.args.pasts.now.entries p before.0) is before.2 in
                  absurd (false≢true (sym w'.if-precedes.false ∙ (w'.precedes.ensures before.0 before.1 stands before.3).1 before.4))
              | else-other-place-via-else-other-place w' ↦ is ∙ w'.if-other-place.false
            ]
        | in_default w ↦ absurd (w.in_default.not-Some other here)
      ]
]

pub returns : goal.returns
returns c = (
  λ yes member other here before.
      let within = slice_get_within c.args.others.now member (Some other) here in
      let end = c.loop-other-test.false in
      c.loop-other.invariant member other (omega (arith, within, end)) here before,
  λ none. refl,
)
