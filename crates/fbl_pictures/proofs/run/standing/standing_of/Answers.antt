use Rattle.fbl_pictures.proofs.Common.{ℕ, List, [], ◌∷◌, ◌++◌, ◌+◌, ◌<◌, ◌≡◌, ◌↔◌, ◌∙◌, Entry, StandsAt, ap, arith, cases_eq, cut_of, false, get_or, get_or_append_left, get_or_push, inl, inr, length, length-append, log_of, slice_get_within, subst, sym, true}
use Rattle.std.specs.Prelude.{Bool}
use Rattle.fbl_runs.specs.HappenedBefore.{Position}
use Rattle.fbl_runs.specs.Moments.{Stands}
use Rattle.fbl_pictures.proofs.run.standing.standing_of.Goals as goal

pub loop-place-init : goal.loop-place-init
loop-place-init c = (ap (λ (l : List Bool). length l) c.new-standing.ensures.items, λ p i below stands. absurd (omega (arith, below)))

pub loop-place-preserved : goal.loop-place-preserved
loop-place-preserved c =
    let es = c.args.pasts.now.entries in
    let old = c.loop-place.standing.items in
    let x = c.stands.result in
    let n = c.loop-place.place in
    let long : length old ≡ n = c.loop-place.invariant.0 in
    let is : Position → Bool → Type 0 = λ i b. (b ≡ true) ↔ Stands (log_of es) (cut_of c.args.moment.now) i in
    let more : length (old ++ x ∷ []) ≡ n + 1 = simp length-append (omega (arith, long)) in
    let each : (p : ℕ) (i : Position) → p < n + 1 → StandsAt es p i → is i (get_or (old ++ x ∷ []) p false) =
    λ p i below stands. elim (cases_eq p n) [
      | inl same ↦ subst (is i) (sym (get_or_push old x false p (long ∙ sym same))) (c.stands.ensures i (subst (λ (k : ℕ). StandsAt es k i) same stands))
      | inr apart ↦ subst (is i) (sym (get_or_append_left old (x ∷ []) false p (omega (arith, below, apart, long))))
          (c.loop-place.invariant.1 p i (omega (arith, below, apart)) stands)
    ] in
    rw c.in_ok-push.ensures.items (more, each)

pub returns : goal.returns
returns c p i stands = (let within = slice_get_within c.args.pasts.now.entries p stands.0 stands.1 in let all = ap (λ (es : List Entry). length es) c.entries-entries.ensures.entries in c.loop-place.invariant.1 p i (omega (arith, within, all)) stands)
