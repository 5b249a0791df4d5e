-- With nobody struck, a run is safe exactly by the always-no-orphans condition.
use Rattle.fbl_judge.proofs.Common.{ℕ, Bool, true, false, ◌≡◌, ◌≤◌, ◌↔◌, inl, inr, List, refl, sym, ap, ◌∙◌, arith, false≢true, Determinant, Entry, log_of, Cut, Members, len-within}
use Rattle.fbl_judge.proofs.Common.{IsSafe, AreEntries, AreStruckOrHold, Run}
use Rattle.std.proofs.Common.{nat_cmp}
use Rattle.std.specs.FinSet as set
use Rattle.fbl_judge.specs.Laws.{AreHolders, HasAlwaysNoOrphans, NoOrphansLaw}
use Rattle.fbl_judge.proofs.SafeAlways.{loses, lost_contains, may_be_lost, some_struck_or_hold}

module _ (run : Run) (entries : List Entry) (logs : run.logs ≡ log_of entries) (rules : AreEntries run.members entries) (nobody : run.strike ≡ set.empty) where
  not_struck : (q : ℕ) → ¬ (set.contains run.strike q ≡ true)
  not_struck q has = false≢true (sym (ap (λ s. set.contains s q) nobody ∙ set.contains-empty nat_cmp q) ∙ has)

  no_length : set.len run.strike ≡ 0
  no_length = ap set.len nobody ∙ set.len-empty nat_cmp

  -- so those struck and those that hold a receipt are those that hold it
  same_members : (cut : Cut) (d : Determinant) (members : Members) → AreStruckOrHold run cut d members ↔ AreHolders run cut d members
  same_members cut d members = (
    λ are q. (λ h. elim ((are q).0 h) [ inl x ↦ absurd (not_struck q x) | inr x ↦ x ], λ h. (are q).1 (inr h)),
    λ are q. (λ h. inr ((are q).0 h), elim [ inl x ↦ absurd (not_struck q x) | inr x ↦ (are q).1 x ]),
  )

  by_condition : IsSafe run → HasAlwaysNoOrphans run
  by_condition safe cut moment i d receipt stands unstored holders are few q depends = at_test (set.contains holders q) refl where
    at_test : (b : Bool) → set.contains holders q ≡ b → set.contains holders q ≡ true
    at_test true has = has
    at_test false out = absurd (
        let both = (same_members cut d holders).1 are in
        let struck = λ (q : ℕ) (h : set.contains run.strike q ≡ true). absurd (not_struck q h) in
        let may = may_be_lost run entries logs rules struck cut d holders both (let n = no_length in omega (arith, few, n)) in
        safe cut moment holders may q (out, (i, (stands, (d, receipt, loses run entries logs rules struck cut d holders both unstored)), depends)))

  of_condition : HasAlwaysNoOrphans run → IsSafe run
  of_condition holds cut moment members may q orphan =
      let i = orphan.1.0 in
      let lost = orphan.1.1 in
      let d = lost.1.0 in
      let struck = λ (q : ℕ) (h : set.contains run.strike q ≡ true). absurd (not_struck q h) in
      some_struck_or_hold run entries logs rules struck cut d (λ holders are.
      let within = λ (r : ℕ) (h : set.contains holders r ≡ true). lost_contains run entries logs rules struck cut members may d lost.1.2 r ((are r).0 h) in
      let few : set.len holders ≤ run.f = (let fewer = len-within (set.len holders) holders members refl within in let most = may.few in let n = no_length in omega (arith, fewer, most, n)) in
      let held = holds cut moment i d lost.1.1 lost.0 lost.1.2.0 holders ((same_members cut d holders).0 are) few q orphan.1.2 in
      false≢true (sym orphan.0 ∙ within q held))

pub safe_by_condition : NoOrphansLaw
safe_by_condition run entries logs rules nobody = (by_condition run entries logs rules nobody, of_condition run entries logs rules nobody)
