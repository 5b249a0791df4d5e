-- That `==` of lists tells them apart where that of their elements does, and that of structs where those of their fields do.
use Rattle.std.specs.Prelude.{◌≡◌, ◌↔◌, ℕ, ◌==◌, ◌&&◌, Bool, true, false, IsTrue}
use Rattle.std.specs.Cmp.Lexicographic.{pointwise}
use Rattle.std.specs.Bool.{Decides}
use Rattle.std.proofs.Common.{ap, arith, refl}
use Rattle.std.proofs.lemmas.Bool.Decides.{Decides-and, Decides-like, nat_tests}
use Rattle.std.proofs.lemmas.Slice.Eq.{slice_eq-Decides}

-- the test answers `true` for equal values alone
abbrev pub IsExact : {A : Type 0} → (A → A → Bool) → Type 0
IsExact {A} same = (a b : A) → IsTrue (same a b) ↔ (a ≡ b)

decides : {P : Type 0} (b : Bool) → IsTrue b ↔ P → Decides b P
decides true is = grind (arith, is)
decides false is = grind (arith, is)

holds : {P : Type 0} (b : Bool) → Decides b P → IsTrue b ↔ P
holds true is = grind (arith, is)
holds false is = grind (arith, is)

pub exact_lists : {A : Type 0} {same : A → A → Bool} → IsExact same → IsExact (pointwise same)
exact_lists {same = same} exact xs ys = holds (pointwise same xs ys) (slice_eq-Decides (λ a b. decides (same a b) (exact a b)) xs ys (pointwise same xs ys) refl)

pub exact_numbers : IsExact (λ (a b : ℕ). a == b)
exact_numbers a b = ((λ same. grind (arith, nat_tests, same)), λ same. grind (arith, nat_tests, same))

-- a struct of two fields, each with its test; where there are more, the second is a pair of the others
pub exact_fields : {T A B : Type 0} {same_first : A → A → Bool} {same_second : B → B → Bool} (first : T → A) (second : T → B)
    → ((s t : T) → first s ≡ first t → second s ≡ second t → s ≡ t) → IsExact same_first → IsExact same_second
    → IsExact (λ (s t : T). same_first (first s) (first t) && same_second (second s) (second t))
exact_fields {same_first = same_first} {same_second = same_second} first second whole exact_first exact_second s t =
    let fields = Decides-and (same_first (first s) (first t)) (same_second (second s) (second t)) (decides _ (exact_first (first s) (first t))) (decides _ (exact_second (second s) (second t))) in
    holds (same_first (first s) (first t) && same_second (second s) (second t)) (Decides-like _ (λ is. whole s t is.0 is.1) (λ same. (ap first same, ap second same)) fields)
