use Rattle.fbl_judge.proofs.Common.{List, Option, SameRestarts, Some, arith, length, log_of, refl, slice_get, slice_get_read, subst, sym, take, ℕ, ◌+◌, ◌≡◌}
use Rattle.std.proofs.lemmas.List.{take_all}
use Rattle.fbl_runs.specs.Clocks.{cut_of}
use Rattle.fbl_runs.specs.Logs.{run_of}
use Rattle.fbl_judge.specs.declared.check.Candidate.{Candidate}
use Rattle.fbl_judge.specs.declared.view.View.{View}
use Rattle.fbl_judge.specs.Candidates.{IsAny, IsFirstAmong, IsFirstOf, IsOfLesser, IsOfViews}
use Rattle.fbl_judge.proofs.DependLaws.{receipt_at}
use Rattle.fbl_judge.proofs.UnsafeLaws.{first_of_two, first_wider, one_view_more, orphan_below}
use Rattle.fbl_judge.proofs.check.first_candidate.Goals as goal
use Rattle.fbl_judge.proofs.check.first_candidate.Goals.{then-replaces, else-replaces}

pub first_in_view-next-requires-clause-view : goal.first_in_view-next-requires-clause-view
first_in_view-next-requires-clause-view c =
    c.views-view-items.ensures.each c.loop-view.view-index c.view-item.result
    (slice_get_read c.views-view-items.result.now (length c.views-view-items.result.now) c.loop-view.view-index c.view-item.result refl c.loop-view-test.true c.view-item.is)

pub loop-view-preserved : goal.loop-view-preserved
loop-view-preserved c i stands =
    let run = c.args.pasts.now in
    let d = c.args.determinant.now in
    let logs = log_of run.entries in
    let views = c.views-view-items.result.now in
    let k = c.loop-view.view-index in
    let here = slice_get_read views (length views) k c.view-item.result refl c.loop-view-test.true c.view-item.is in
    let first : (r : Option Candidate) → IsFirstOf c.loop-view.first c.first_in_view-next.result r → IsFirstAmong (run_of run) i d (IsOfViews logs (take (k + 1) views)) r =
    λ r is. first_of_two run c.requires.run.lawful c.requires.run.strike i d (receipt_at run.entries c.args.place d i c.requires.receipt stands)
    (IsOfViews logs (take k views)) (IsOfLesser logs (cut_of c.view-item.result.base) 16) (IsOfViews logs (take (k + 1) views))
    (λ q cut is. one_view_more logs views k c.view-item.result here q cut is)
    c.loop-view.first c.first_in_view-next.result r (c.loop-view.invariant i stands) (c.first_in_view-next.ensures i stands) is in
    elim c.if-replaces.branch [
      | then-replaces w ↦ rw w.first-is (first c.first_in_view-next.result (c.replaces.ensures.yes w.if-replaces.true))
      | else-replaces w ↦ rw w.first-is (first c.loop-view.first (c.replaces.ensures.no w.if-replaces.false))
    ]

pub returns : goal.returns
returns c i stands =
    let run = c.args.pasts.now in
    let d = c.args.determinant.now in
    let logs = log_of run.entries in
    let views = c.views-view-items.result.now in
    let k = c.loop-view.view-index in
    let receipt = receipt_at run.entries c.args.place d i c.requires.receipt stands in
    let all : take k views ≡ views = take_all k views (let t = c.loop-view-test.false in omega (arith, t)) in
    first_wider run c.requires.run.lawful c.requires.run.strike i d receipt
    (IsOfViews logs (take k views)) IsAny (λ q cut members is candidate. (
      orphan_below run c.requires.run.lawful c.requires.run.strike i d receipt q cut members candidate,
      subst (λ (vs : List View). (k : ℕ) × (view : View) × (slice_get vs k ≡ Some view) × SameRestarts logs (cut_of view.base) cut) (sym all) (c.views-view-items.ensures.all cut candidate.moment.moment),
    )) c.loop-view.first (c.loop-view.invariant i stands)
