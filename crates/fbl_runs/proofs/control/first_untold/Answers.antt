use Rattle.fbl_runs.proofs.Common.{◌≡◌, ◌+◌, ◌++◌, ◌∷◌, [], ◌∙◌, suc, arith, sym, ap, refl, subst, List, Entry, Some, length, slice_get, slice_get_read, take, take-more}
use Rattle.std.proofs.Common.{below_more}
use Rattle.fbl_runs.specs.ControlMessages.{HasTold, IsToldAt, MayBeTold}
use Rattle.fbl_runs.proofs.ControlLaws.{told_all}
use Rattle.fbl_runs.proofs.control.first_untold.Goals as goal

pub loop-place-preserved : goal.loop-place-preserved
loop-place-preserved c =
    let es = c.args.entries.now in
    let p = c.loop-place.place in
    let e = c.index-entries-place.result in
    let here : slice_get es p ≡ Some e = slice_get_read es (length es) p e refl c.loop-place-test.true c.index-entries-place.is in
    let next : take p es ++ e ∷ [] ≡ take (p + 1) es = (let one : suc p ≡ p + 1 = omega arith in sym (take-more es p e here) ∙ ap (λ x. take x es) one) in
    let old = c.loop-place.invariant in
    record {
      told = subst (λ (t : List Entry). HasTold t c.add.new.self) next (c.in_ok-add.ensures (take p es) old.told);
      good = below_more (IsToldAt c.args.n es) p old.good (λ x there.
          let same : e ≡ x = (let s : Some e ≡ Some x = sym here ∙ there in cc) in
          subst (λ (x : Entry). MayBeTold c.args.n (take p es) x) same (c.in_default.ensures (take p es) old.told));
    }

pub returns : goal.returns
returns c = told_all c.args.n c.args.entries.now c.loop-place.place c.loop-place-test.false c.loop-place.invariant.good

pub returns-in-Some : goal.returns-in-Some
returns-in-Some c =
    let es = c.args.entries.now in
    let p = c.loop-place.place in
    let e = c.index-entries-place.result in
    let here : slice_get es p ≡ Some e = slice_get_read es (length es) p e refl c.loop-place-test.true c.index-entries-place.is in
    (c.loop-place.invariant.good, here, c.in-Some.ensures (take p es) c.loop-place.invariant.told)
