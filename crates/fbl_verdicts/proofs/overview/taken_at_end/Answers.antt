use Rattle.fbl_verdicts.proofs.Common.{◌≡◌, ◌∙◌, ◌<◌, Bool, false, List, length, arith, ap, sym, subst}
use Rattle.std.proofs.Common.{rules, replicate, slice_get, vec_len}
use Rattle.std.proofs.lemmas.List.{length-replicate}
use Rattle.fbl_runs.specs.Entries.{log_of}
use Rattle.fbl_runs.specs.declared.entry.Entry.{Entry}
use Rattle.fbl_runs.specs.Links.{IsPlaceOf}
use Rattle.fbl_judge.proofs.PathLaws.{none_message}
use Rattle.fbl_judge.proofs.Places.{place_within, position_at}
use Rattle.fbl_verdicts.proofs.InFlightLaws.{all_false, none_taken, taken_all, taken_more, taken_same}
use Rattle.fbl_verdicts.specs.Overviews.{TakesAtEnd}
use Rattle.fbl_verdicts.proofs.overview.taken_at_end.Goals as goal
use Rattle.fbl_verdicts.proofs.overview.taken_at_end.Goals.{After-taken_by, in-Some, in_default}

within : (c : After-taken_by) → c.loop-place.place < length c.args.pasts.now.entries
within c =
    let same = ap (λ (es : List Entry). length es) c.entries-count.ensures.entries in
    let below = c.loop-place-test.true in
    omega (arith, same, below)

pub loop-place-init : goal.loop-place-init
loop-place-init c =
    let es = c.args.pasts.now.entries in
    let n = length c.entries-count.result.now in
    let items : c.in_ok-taken.taken.items ≡ replicate n false = c.in_ok-taken.ensures.items_if_clones_equal (λ y same. same) in
    let same = ap (λ (es : List Entry). length es) c.entries-count.ensures.entries in
    let count = ap (λ (bs : List Bool). length bs) items ∙ length-replicate n false ∙ same in
    none_taken es c.in_ok-taken.taken.items count
    (λ place b here. all_false n place b (ap (λ (bs : List Bool). slice_get bs place) (sym items) ∙ here))

pub index_mut-requires : goal.index_mut-requires
index_mut-requires c =
    let es = c.args.pasts.now.entries in
    let j = position_at es c.loop-place.place (within (goal.at.index_mut-requires c).After-taken_by) in
    let is = subst (IsPlaceOf es (TakesAtEnd (log_of es) j.0)) c.in-Some.is (c.taken_by.ensures j.0 j.1) in
    let below = place_within es c.in-Some.send is.0 is.1 in
    let count = c.loop-place.invariant.count in
    let tie : vec_len c.loop-place.taken ≡ length c.loop-place.taken.items = search rules in
    omega (arith, below, count, tie)

pub loop-place-preserved : goal.loop-place-preserved
loop-place-preserved c =
    let es = c.args.pasts.now.entries in
    let p = c.loop-place.place in
    let j = position_at es p (within (goal.at.loop-place-preserved c).After-taken_by) in
    elim c.match-taken_by.branch [
      | in-Some w ↦
          let is = subst (IsPlaceOf es (TakesAtEnd (log_of es) j.0)) w.in-Some.is (c.taken_by.ensures j.0 j.1) in
          rw w.taken-is (taken_more es p c.loop-place.taken.items c.loop-place.invariant w.in-Some.send j.0 j.1 is)
      | in_default w ↦ rw w.taken-is (taken_same es p c.loop-place.taken.items c.loop-place.invariant
          (λ k at_k. none_message es (TakesAtEnd (log_of es) k) c.taken_by.result w.in_default.not-Some (c.taken_by.ensures k at_k)))
    ]

pub returns : goal.returns
returns c =
    let es = c.args.pasts.now.entries in
    let same = ap (λ (es : List Entry). length es) c.entries-count.ensures.entries in
    let end = c.loop-place-test.false in
    taken_all es c.loop-place.place c.loop-place.taken.items c.loop-place.invariant (omega (arith, same, end))
