use Rattle.fbl_verdicts.proofs.Common.{◌≡◌, ◌∙◌, Some, None, length, arith, sym, false≢true}
use Rattle.std.proofs.Common.{rules}
use Rattle.std.proofs.lemmas.Option.{get_or_from_slice_get}
use Rattle.fbl_judge.proofs.Places.{place_within}
use Rattle.fbl_verdicts.proofs.OverviewLaws.{chosen_all, chosen_more, chosen_same, none_chosen, some_at}
use Rattle.fbl_verdicts.proofs.overview.first_places.Goals as goal
use Rattle.fbl_verdicts.proofs.overview.first_places.Goals.{in-Some+then-is_first+in_ok-push, in-Some+else-is_first, in_default}

pub loop-first-init : goal.loop-first-init
loop-first-init c = rw c.new-places.ensures.items (none_chosen c.args.pasts.now.entries c.earliest_said-earliest.result)

pub is_first-requires-clause-place : goal.is_first-requires-clause-place
is_first-requires-clause-place c =
    let earliest = c.earliest_said-earliest.result in
    let n = c.loop-first.first-index in
    let stands = (c.earliest_said-earliest.ensures.each n c.in-Some.place (some_at earliest n c.in-Some.place c.in-Some.is)).1 in
    place_within c.args.pasts.now.entries c.in-Some.place stands.0 stands.1

pub is_first-requires-clause-others : goal.is_first-requires-clause-others
is_first-requires-clause-others c member other here =
    let stands = (c.earliest_said-earliest.ensures.each member other here).1 in
    place_within c.args.pasts.now.entries other stands.0 stands.1

pub loop-first-preserved : goal.loop-first-preserved
loop-first-preserved c =
    let es = c.args.pasts.now.entries in
    let earliest = c.earliest_said-earliest.result in
    let are = c.earliest_said-earliest.ensures in
    let n = c.loop-first.first-index in
    let old = c.loop-first.invariant in
    elim c.match-first.branch [
      | in-Some+then-is_first+in_ok-push w ↦
          let place = w.in-Some.place in
          rw (w.places-is, w.in_ok-push.ensures.items)
          (chosen_more es _ earliest are n _ old place (some_at earliest n place w.in-Some.is, w.is_first.ensures.0 w.if-is_first.true))
      | in-Some+else-is_first w ↦ rw w.places-is (chosen_same es _ earliest are n _ old (λ place chosen.
          let both : Some w.in-Some.place ≡ Some place = sym w.in-Some.is ∙ get_or_from_slice_get earliest n (Some place) None chosen.0 in
          let is : w.in-Some.place ≡ place = cc in
          false≢true (sym w.if-is_first.false ∙ w.is_first.ensures.1 (rw is chosen.1))))
      | in_default w ↦ rw w.places-is (chosen_same es _ earliest are n _ old
          (λ place chosen. w.in_default.not-Some place (get_or_from_slice_get earliest n (Some place) None chosen.0)))
    ]

pub returns : goal.returns
returns c =
    let es = c.args.pasts.now.entries in
    let earliest = c.earliest_said-earliest.result in
    let size : length earliest ≡ 16 = search rules in
    let end = c.loop-first-test.false in
    let lawful = c.run-run.ensures.rules.lawful.lawful in
    chosen_all es _ earliest c.earliest_said-earliest.ensures c.loop-first.first-index _ c.loop-first.invariant _ lawful (omega (arith, size, end))
