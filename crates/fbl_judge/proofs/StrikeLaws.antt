-- The members that each candidate of a receipt has struck, where no others restart.
use Rattle.fbl_judge.proofs.Common.{ℕ, Bool, true, false, ◌≡◌, ◌<◌, ◌≤◌, ◌⊎◌, inl, inr, Option, Some, None, refl, sym, subst, ◌∙◌, arith, cases_lt, false≢true, nat_tests}
use Rattle.fbl_judge.proofs.Common.{AllBelow, AreEntries, AreStruckOrHold, Cut, DependsAt, Determinant, IsReceiptAt, Members, Position, Run, SameRestarts, itself, len-within}
use Rattle.std.specs.Cmp.{nat_cmp_total}
use Rattle.std.specs.FinSet as set
use Rattle.fbl_trace.specs.MemberSets.{same_from_contains}
use Rattle.fbl_trace.proofs.Sets.{len-remove_one}
use Rattle.fbl_runs.specs.Logs.{RunParts, run_of}
use Rattle.fbl_judge.specs.declared.check.Candidate.{Candidate}
use Rattle.fbl_judge.specs.Candidates.{AreStruckInAll, IsFirstAmong, IsLeastIn, IsOfLesser, IsStruckWithin, NoneDepends}
use Rattle.fbl_judge.specs.Unsafe.{IsCandidate, IsLeastStrike}
use Rattle.fbl_judge.proofs.MomentLaws.{holds_later, stored_later}
use Rattle.fbl_judge.proofs.SafeAlways.{some_struck_or_hold}

-- ---- sets

-- a set within another is that one, or has fewer members
same_or_fewer : (s t : Members) → ((r : ℕ) → set.contains s r ≡ true → set.contains t r ≡ true) → (s ≡ t) ⊎ (set.len s < set.len t)
same_or_fewer s t within = elim (cases_lt (set.len s) (set.len t)) [
  | inl fewer ↦ inr fewer
  | inr most ↦ inl (same_from_contains s t (λ q. equal most q (set.contains s q) refl (set.contains t q) refl))
] where
  equal : set.len t ≤ set.len s → (q : ℕ) (b : Bool) → set.contains s q ≡ b → (c : Bool) → set.contains t q ≡ c → set.contains s q ≡ set.contains t q
  equal most q true own true others = own ∙ sym others
  equal most q false own false others = own ∙ sym others
  equal most q true own false others = absurd (false≢true (sym others ∙ within q own))
  equal most q false own true others =
      let one = len-remove_one t q others in
      let less = len-within (set.len s) s (set.remove t q) refl (λ r has. (let w = within r has in grind (arith, nat_tests, set.contains-remove nat_cmp_total t q r, w, has, own))) in
      absurd (omega (arith, one, less, most))

module _ (log : RunParts) (rules : AreEntries log.members log.entries) (struck : AllBelow log.strike log.members) where
  abbrev run : Run
  run = run_of log

  module _ (i : Position) (d : Determinant) (receipt : IsReceiptAt run.logs d i) (base : Cut) (m : ℕ) (own : i.member ≡ m) where
    -- where its receiver depends on the receipt at no moment, it has no candidate
    pub none_if_nowhere : NoneDepends run.logs i m base → IsFirstAmong run i d (IsOfLesser run.logs base 16) None
    none_if_nowhere none q cut members is candidate =
        none cut candidate.moment.moment is.1 (subst (λ (x : ℕ). DependsAt run.logs cut i x) own (i.number, itself receipt.1, candidate.stands))

    module _ (least_cut : Cut) (least : IsLeastIn run.logs i m base least_cut) where
      module _ (q : ℕ) (cut : Cut) (members : Members) (same : SameRestarts run.logs base cut) (candidate : IsCandidate run i d q cut members) where
        same_restarts : SameRestarts run.logs least_cut cut
        same_restarts r = (let a = least.0 r in let b = same r in (λ h. b.0 (a.1 h), λ h. a.0 (b.1 h)))

        before : (p : ℕ) → least_cut p ≤ cut p
        before p = least.1.least cut candidate.moment.moment same_restarts (subst (λ (x : ℕ). DependsAt run.logs cut i x) own (i.number, itself receipt.1, candidate.stands)) p

        -- who is struck or holds it at the least moment, is struck or holds it at the candidate's
        struck_too : (s : Members) → AreStruckOrHold run least_cut d s → (r : ℕ) → set.contains s r ≡ true → set.contains members r ≡ true
        struck_too s are r has = (candidate.least.least r).1 (elim ((are r).0 has) [
          | inl x ↦ inl x
          | inr x ↦ inr (holds_later run.logs least_cut cut before (λ p. (same_restarts p).1) d r x)
        ])

        lost_there : ((strike : Members) → ¬ (IsLeastStrike run least_cut d strike)) → ⊥
        lost_there none = some_struck_or_hold run log.entries refl rules struck least_cut d (λ s are.
            let fewer = len-within (set.len s) s members refl (struck_too s are) in
            none s (record {
              unstored = λ stored. candidate.least.unstored (stored_later run.logs least_cut cut before d stored);
              least = are;
              few = (let n = candidate.least.few in omega (arith, fewer, n));
            }))

      -- where no members may be lost that lose it there, it has none
      pub none_if_lost_nowhere : ((strike : Members) → ¬ (IsLeastStrike run least_cut d strike)) → IsFirstAmong run i d (IsOfLesser run.logs base 16) None
      none_if_lost_nowhere none q cut members is candidate = lost_there q cut members is.1 candidate none

      -- and each has those struck whose loss loses it there
      pub struck_in_all : (strike : Members) → IsLeastStrike run least_cut d strike → AreStruckInAll run i d base strike
      struck_in_all strike is q cut members same candidate = struck_too q cut members same candidate strike is.least

  -- of a candidate with none but these struck, and of those with a greater member, it comes first
  pub first_if_least : (i : Position) (d : Determinant) (base : Cut) (n : ℕ) (least : Members) → AreStruckInAll run i d base least → (o : Option Candidate) → IsFirstAmong run i d (IsOfLesser run.logs base n) o
      → ((c : Candidate) → o ≡ Some c → c.orphan < n) → IsStruckWithin least o → IsFirstAmong run i d (IsOfLesser run.logs base 16) o
  first_if_least i d base n least all (Some c) first below within = (
    first.0,
    λ q cut members is candidate. elim (cases_lt q n) [
      | inl less ↦ first.1 q cut members (less, is.1) candidate
      | inr more ↦
          let orphan : c.orphan < q = (let b = below c refl in omega (arith, b, more)) in
          elim (same_or_fewer c.strike members (λ r has. all q cut members is.1 candidate r (within r has))) [
            | inl equal ↦ inr (equal, inl orphan)
            | inr fewer ↦ inl (inl fewer)
          ]
    ],
  )
  first_if_least i d base n least all None first below within = absurd within
