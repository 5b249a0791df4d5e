-- Sets of members that are found by a test of each in turn.
use Rattle.fbl_judge.proofs.Common.{Bool, ap, arith, cases_eq, cond, false, false≢true, inl, inr, refl, subst, sym, true, ℕ, Members, ◌+◌, ◌<◌, ◌≡◌, ◌≢◌, ◌↔◌, ◌∙◌}
use Rattle.fbl_trace.specs.MemberSets.{contains-insert_same, contains-insert_other}
use Rattle.std.proofs.Common.{nat_cmp}
use Rattle.std.specs.FinSet as set

pub found_more : (P : ℕ → Type 0) (old new : Members) (n m : ℕ) (b : Bool) → m ≡ n → ((b ≡ true) ↔ P m) → new ≡ cond b (set.insert old m) old
    → ((q : ℕ) → (set.contains old q ≡ true) ↔ (q < n) × P q) → (q : ℕ) → (set.contains new q ≡ true) ↔ (q < n + 1) × P q
found_more P old new n m b same test is before q = elim (cases_eq q m) [
  | inl here ↦ at_member here b refl
  | inr ne ↦
      let kept : set.contains new q ≡ set.contains old q = ap (λ s. set.contains s q) is ∙ other ne b in (
        λ h. (let r = (before q).0 (sym kept ∙ h) in (omega (arith, r.0), r.1)),
        λ h. kept ∙ (before q).1 (omega (arith, h.0, ne, same), h.1),
      )
] where
  other : q ≢ m → (b : Bool) → set.contains (cond b (set.insert old m) old) q ≡ set.contains old q
  other ne true = contains-insert_other old m q ne
  other ne false = refl

  at_member : q ≡ m → (b' : Bool) → b ≡ b' → (set.contains new q ≡ true) ↔ (q < n + 1) × P q
  at_member here true yes' =
      let has : set.contains new q ≡ true = ap (λ s. set.contains s q) (is ∙ ap (λ b. cond b (set.insert old m) old) yes') ∙ ap (set.contains (set.insert old m)) here ∙ contains-insert_same old m in
      (λ h. (omega (arith, here, same), subst P (sym here) (test.0 yes')), λ h. has)
  at_member here false no' =
      let lacks : set.contains new q ≡ set.contains old q = ap (λ s. set.contains s q) (is ∙ ap (λ b. cond b (set.insert old m) old) no') in (
        λ h. (let r = (before q).0 (sym lacks ∙ h) in absurd (omega (arith, r.0, here, same))),
        λ h. absurd (false≢true (sym no' ∙ test.1 (subst P here h.1))),
      )

pub found_none : (P : ℕ → Type 0) (s : Members) → s ≡ set.empty → (q : ℕ) → (set.contains s q ≡ true) ↔ (q < 0) × P q
found_none P s none q = (λ h. absurd (false≢true (sym (ap (λ s. set.contains s q) none ∙ set.contains-empty nat_cmp q) ∙ h)), λ h. absurd (omega (arith, h.0)))
