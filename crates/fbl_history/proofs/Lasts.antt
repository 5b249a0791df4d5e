-- The last place that passes a test.
use Rattle.fbl_history.proofs.Common.{ℕ, zero, suc, ◌<◌, ◌≤◌, ◌≡◌, ◌⊎◌, Bool, true, false, cond, inl, inr, Option, Some, None, refl, sym, ap, ◌∙◌, arith, cases_lt, last_before, later}

-- it passes the test, and none behind it does
pub last_is : (test : ℕ → Bool) (place t : ℕ) → last_before test place ≡ Some t
    → (t < place) × (test t ≡ true) × ((j : ℕ) → t < j → j < place → test j ≡ false)
last_is test zero t is = absurd cc
last_is test (suc place) t is = at (test place) refl is (last_is test place t) where
  at : (b : Bool) → test place ≡ b → cond b (Some place) (last_before test place) ≡ Some t
      → (last_before test place ≡ Some t → (t < place) × (test t ≡ true) × ((j : ℕ) → t < j → j < place → test j ≡ false))
      → (t < suc place) × (test t ≡ true) × ((j : ℕ) → t < j → j < suc place → test j ≡ false)
  at true passes found before =
      let same : place ≡ t = cc in
      (omega (arith, same), ap test (sym same) ∙ passes, λ j behind below. absurd (omega (arith, same, behind, below)))
  at false fails found before =
      let known = before found in (
        omega (arith, known.0),
        known.1,
        λ j behind below. elim (cases_lt j place) [
          | inl earlier ↦ known.2 j behind earlier
          | inr past ↦ (let same : j ≡ place = omega (arith, below, past) in ap test same ∙ fails)
        ],
      )

-- where a place passes the test there is a last one, no earlier
pub last_some : (test : ℕ → Bool) (place k : ℕ) → k < place → test k ≡ true → (t : ℕ) × (last_before test place ≡ Some t) × (k ≤ t)
last_some test zero k below passes = absurd (omega (arith, below))
last_some test (suc place) k below passes = at (test place) refl (last_some test place k) where
  at : (b : Bool) → test place ≡ b → (k < place → test k ≡ true → (t : ℕ) × (last_before test place ≡ Some t) × (k ≤ t))
      → (t : ℕ) × (cond (test place) (Some place) (last_before test place) ≡ Some t) × (k ≤ t)
  at true is before = (place, rw is refl, omega (arith, below))
  at false is before = elim (cases_lt k place) [
    | inl earlier ↦ (let known = before earlier passes in (known.0, rw is known.1, known.2))
    | inr past ↦ (let same : k ≡ place = omega (arith, below, past) in let clash : test k ≡ false = ap test same ∙ is in absurd cc)
  ]

-- the later one of two places is one of them
pub later_is : (a b : Option ℕ) (t : ℕ) → later a b ≡ Some t → (a ≡ Some t) ⊎ (b ≡ Some t)
later_is None b t is = inr is
later_is (Some i) None t is = inl is
later_is (Some i) (Some k) t is = elim (cases_lt i k) [ inl below ↦ grind (arith, below, is) | inr past ↦ grind (arith, past, is) ]
