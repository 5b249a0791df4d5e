use Rattle.fbl_runs.proofs.Common.{◌≡◌, ◌+◌, ◌++◌, ◌∷◌, [], ◌∙◌, suc, arith, sym, ap, refl, subst, List, Entry, Some, length, length-take, slice_get, slice_get_read, slice_get_within, take, take-more}
use Rattle.std.proofs.Common.{below_more}
use Rattle.fbl_runs.specs.LifeRules.{HasFollowed}
use Rattle.fbl_runs.specs.Rules.{FollowsAt, MayFollow}
use Rattle.fbl_runs.proofs.life_rules.first_life_fault.Goals as goal

pub loop-place-preserved : goal.loop-place-preserved
loop-place-preserved c =
    let es = c.args.entries.now in
    let p = c.loop-place.place in
    let e = c.index-entries-place.result in
    let here : slice_get es p ≡ Some e = slice_get_read es (length es) p e refl c.loop-place-test.true c.index-entries-place.is in
    let next : take p es ++ e ∷ [] ≡ take (p + 1) es = (let one : suc p ≡ p + 1 = omega arith in sym (take-more es p e here) ∙ ap (λ x. take x es) one) in
    let count : p ≡ length (take p es) = (let t = c.loop-place-test.true in omega (arith, t, length-take p es)) in
    let old = c.loop-place.invariant in
    let may = c.in_default.ensures (take p es) old.followed in
    record {
      followed = subst (λ (t : List Entry). HasFollowed t c.add.new.self) next (c.in_ok-add.ensures c.args.n (take p es) old.followed may count);
      good = below_more (FollowsAt c.args.n es) p old.good (λ x there.
          let same : e ≡ x = (let s : Some e ≡ Some x = sym here ∙ there in cc) in
          subst (λ (x : Entry). MayFollow c.args.n (take p es) x) same may);
    }

pub returns-in-Some : goal.returns-in-Some
returns-in-Some c =
    let es = c.args.entries.now in
    let p = c.loop-place.place in
    let e = c.index-entries-place.result in
    let here : slice_get es p ≡ Some e = slice_get_read es (length es) p e refl c.loop-place-test.true c.index-entries-place.is in
    (c.loop-place.invariant.good, here, c.in-Some.ensures (take p es) c.loop-place.invariant.followed)

pub returns : goal.returns
returns c i e here = c.loop-place.invariant.good i (let w = slice_get_within c.args.entries.now i e here in let t = c.loop-place-test.false in omega (arith, w, t)) e here
