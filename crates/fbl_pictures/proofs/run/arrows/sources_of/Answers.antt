use Rattle.fbl_pictures.proofs.Common.{ℕ, List, Option, None, [], ◌∷◌, ◌++◌, ◌+◌, ◌<◌, ◌≡◌, ◌∙◌, Entry, StandsAt, ap, arith, cases_eq, get_or, get_or_append_left, get_or_push, inl, inr, length, length-append, log_of, slice_get_within, subst, sym}
use Rattle.fbl_runs.specs.HappenedBefore.{Position}
use Rattle.fbl_runs.specs.Links.{IsLink, IsMessageOf, IsPlaceOf}
use Rattle.fbl_pictures.proofs.run.arrows.sources_of.Goals as goal

pub loop-place-init : goal.loop-place-init
loop-place-init c = (ap (λ (l : List (Option ℕ)). length l) c.new-sources.ensures.items, λ p j below stands. absurd (omega (arith, below)))

pub link-requires : goal.link-requires
link-requires c = (let all = ap (λ (es : List Entry). length es) (c.index-index.ensures ∙ sym c.entries-entries.ensures.entries) in omega (arith, all))

pub loop-place-preserved : goal.loop-place-preserved
loop-place-preserved c =
    let es = c.args.pasts.now.entries in
    let old = c.loop-place.sources.items in
    let x = c.link.result.message in
    let n = c.loop-place.place in
    let long : length old ≡ n = c.loop-place.invariant.0 in
    let here : (p : ℕ) (j : Position) → p ≡ n → StandsAt es p j → IsPlaceOf es (IsMessageOf (log_of es) j) x = λ p j same stands.
    (let at = subst (λ (k : ℕ). StandsAt es k j) same stands in
    let is = subst (λ (l : List Entry). StandsAt l n j → IsLink l j c.link.result) c.index-index.ensures (c.link.ensures j) in (is at).message) in
    let more : length (old ++ x ∷ []) ≡ n + 1 = simp length-append (omega (arith, long)) in
    let each : (p : ℕ) (j : Position) → p < n + 1 → StandsAt es p j → IsPlaceOf es (IsMessageOf (log_of es) j) (get_or (old ++ x ∷ []) p None) =
    λ p j below stands. elim (cases_eq p n) [
      | inl same ↦ subst (λ (o : Option ℕ). IsPlaceOf es (IsMessageOf (log_of es) j) o) (sym (get_or_push old x None p (long ∙ sym same))) (here p j same stands)
      | inr apart ↦ subst (λ (o : Option ℕ). IsPlaceOf es (IsMessageOf (log_of es) j) o) (sym (get_or_append_left old (x ∷ []) None p (omega (arith, below, apart, long))))
          (c.loop-place.invariant.1 p j (omega (arith, below, apart)) stands)
    ] in
    rw c.in_ok-push.ensures.items (more, each)

pub returns : goal.returns
returns c p j stands = (let within = slice_get_within c.args.pasts.now.entries p stands.0 stands.1 in let all = ap (λ (es : List Entry). length es) c.entries-entries.ensures.entries in c.loop-place.invariant.1 p j (omega (arith, within, all)) stands)
