-- In which of the restarts that are listed members forgot a receipt.
use Rattle.fbl_verdicts.proofs.Common.{ℕ, ◌≡◌, ◌<◌, ◌≤◌, ◌+◌, ◌∙◌, ◌++◌, inl, inr, Some, List, [], ◌∷◌, length, sym, ap, subst, arith, cases_eq}
use Rattle.fbl_trace.proofs.Common.{slice_get, slice_get_within}
use Rattle.fbl_trace.proofs.Gets.{At-front, At-push, At-seam}
use Rattle.fbl_judge.proofs.Restarts.{some_is}
use Rattle.fbl_judge.specs.Pasts.{AreRestartPlaces, IsRestartPlace}
use Rattle.fbl_judge.specs.declared.reason.Reason.{Reason}
use Rattle.fbl_runs.specs.declared.entry.Entry.{Entry}
use Rattle.fbl_runs.specs.Clocks.{StandsAt}
use Rattle.fbl_runs.specs.Entries.{log_of}
use Rattle.fbl_runs.specs.HappenedBefore.{Position}
use Rattle.fbl_verdicts.specs.Forgotten.{AreForgotten, IsForgottenIn}

-- the places are those of the restarts among the first n of these in which members forgot the receipt
pub record AreFound (entries : List Entry) (reason : Reason) (restarts : List ℕ) (n : ℕ) (places : List ℕ) : Type 0 where
  pub each : (k place : ℕ) → slice_get places k ≡ Some place
      → IsRestartPlace entries place × ((r : Position) × StandsAt entries place r × IsForgottenIn (log_of entries) reason r)
  pub all : (m place : ℕ) (r : Position) → m < n → slice_get restarts m ≡ Some place → StandsAt entries place r → IsForgottenIn (log_of entries) reason r
      → (k : ℕ) × (slice_get places k ≡ Some place)

module _ (entries : List Entry) (reason : Reason) (restarts : List ℕ) (n place : ℕ) (here : slice_get restarts n ≡ Some place) (places : List ℕ) (found : AreFound entries reason restarts n places) where
  -- one more that is
  pub found_more : IsRestartPlace entries place → (r : Position) → StandsAt entries place r → IsForgottenIn (log_of entries) reason r → AreFound entries reason restarts (n + 1) (places ++ place ∷ [])
  found_more is r stands forgotten = record {
    each = λ k other at_k. elim (At-push places place k other at_k) [
      | inl before ↦ found.each k other before
      | inr last ↦
          subst (λ (p : ℕ). IsRestartPlace entries p × ((r : Position) × StandsAt entries p r × IsForgottenIn (log_of entries) reason r)) last.1 (is, (r, stands, forgotten))
    ];
    all = λ m other s below at_m there lost. elim (cases_eq m n) [
      | inl same ↦ (length places, At-seam places place [] ∙ sym here ∙ ap (slice_get restarts) (sym same) ∙ at_m)
      | inr ne ↦ (let k = found.all m other s (omega (arith, below, ne)) at_m there lost in (k.0, At-front places (place ∷ []) k.0 other k.1))
    ];
  }

  -- one that is not
  pub found_same : ((r : Position) → StandsAt entries place r → ¬ (IsForgottenIn (log_of entries) reason r)) → AreFound entries reason restarts (n + 1) places
  found_same not = record {
    each = found.each;
    all = λ m other s below at_m there lost. elim (cases_eq m n) [
      | inl same ↦
          let is = some_is (sym at_m ∙ ap (slice_get restarts) same ∙ here) in
          absurd (not s (subst (λ (p : ℕ). StandsAt entries p s) is there) lost)
      | inr ne ↦ found.all m other s (omega (arith, below, ne)) at_m there lost
    ];
  }

-- where the restarts are all
pub found_all : (entries : List Entry) (reason : Reason) (restarts : List ℕ) (n : ℕ) (places : List ℕ) → AreRestartPlaces entries restarts → length restarts ≤ n
    → AreFound entries reason restarts n places → AreForgotten entries reason places
found_all entries reason restarts n places are all found = record {
  each = found.each;
  all = λ place r is stands lost. (
      let m = are.all place is in
      let within = slice_get_within restarts m.0 place m.1 in
      found.all m.0 place r (omega (arith, within, all)) m.1 stands lost);
}
