use Rattle.fbl_program.proofs.Common.{ℕ, List, ◌≡◌, ◌∙◌, arith, inl, inr, string_bytes, subst, sym}
use Rattle.std.proofs.lemmas.Bool.{cases_lt, false≢true}
use Rattle.std.proofs.lemmas.Slice.Eq.{bytes_eq-Decides}
use Rattle.std.specs.Prelude.{◌≢◌}
use Rattle.fbl_runs.specs.Sources.{IsSpotText}
use Rattle.fbl_program.proofs.around.place_named.Goals as goal

pub loop-place-preserved : goal.loop-place-preserved
loop-place-preserved c p below =
    let place = c.loop-place.place in
    let words = c.args.words.now in
    let differs : string_bytes c.in_ok-spot.spot ≢ words =
    λ same. false≢true (sym c.if-eq.false ∙ c.eq.ensures ∙ (bytes_eq-Decides c.as_str.result.now words).1 (c.as_str.ensures.value ∙ same)) in
    elim (cases_lt p place) [
      | inl less ↦ c.loop-place.invariant p less
      | inr past ↦
          let here : place ≡ p = omega (arith, below, past) in
          subst (λ (n : ℕ). (spot : List ℕ) × IsSpotText c.args.sources.now n spot × (spot ≢ words)) here
          (string_bytes c.in_ok-spot.spot, c.in_ok-spot.ensures, differs)
    ]
