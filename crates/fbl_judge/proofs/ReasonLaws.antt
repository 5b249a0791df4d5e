-- What the reason of an unsafe receipt is said of.
use Rattle.fbl_judge.proofs.Common.{ℕ, true, ◌≡◌, ◌<◌, ◌≤◌, ◌+◌, ◌++◌, ◌∷◌, ◌∙◌, [], inl, inr, List, length, take, arith, cases_eq, cases_lt, refl, Option, Some, None, sym, ap, subst, false≢true}
use Rattle.fbl_judge.proofs.Common.{Determinant, Entry, entry_member, log_of, Position, at, Cut, HasCome, Members, DependsAt, StandsAt, AreEntries, cut_of, seen, RunParts}
use Rattle.std.proofs.Common.{IfOk, Result, Ok, Err, get_or}
use Rattle.std.specs.List.{AllZip}
use Rattle.std.proofs.lemmas.List.{take_more}
use Rattle.std.specs.FinSet as set
use Rattle.fbl_trace.specs.MemberSets.{contains-insert_other}
use Rattle.fbl_runs.specs.Logs.{IsRun}
use Rattle.fbl_runs.specs.Records.{IsRecordAt}
use Rattle.fbl_runs.specs.declared.judged.Judged.{Judged}
use Rattle.fbl_runs.specs.declared.judged.Judged.TheVariants.{AtEachMoment, AtItsEnd}
use Rattle.fbl_runs.proofs.Listing.{locate_all, some_entry}
use Rattle.fbl_judge.specs.Reasons.{IsReasonAt, IsToCome, cut_in}
use Rattle.std.proofs.lemmas.List.{get_or_past}
use Rattle.fbl_judge.specs.Unsafe.{IsSaidAt, IsSaidOf}
use Rattle.fbl_judge.specs.declared.check.UnsafeReceipt.{UnsafeReceipt}
use Rattle.fbl_judge.specs.declared.reason.Reason.{Reason}
use Rattle.fbl_judge.proofs.DependLaws.{least_within}
use Rattle.fbl_judge.proofs.PathLaws.{same_paths}

-- two that hold of a result
pub ok_both : {A E : Type 0} (P Q R : A → Type 0) (r : Result A E) → IfOk r P → IfOk r Q → ((x : A) → P x → Q x → R x) → IfOk r R
ok_both P Q R (Ok x) p q f = f x p q
ok_both P Q R (Err e) p q f = tt

-- a reason at the same cut with paths to the same members in other words
pub same_reason : (run : RunParts) (i : Position) (a b : Cut) (P Q : ℕ → Type 0) (reason : Reason) → a ≡ b → ((q : ℕ) → (P q → Q q) × (Q q → P q)) → IsReasonAt run i a P reason → IsReasonAt run i b Q reason
same_reason run i a b P Q reason cut same is = subst (λ (b : Cut). IsReasonAt run i b Q reason) cut (record {
  moment = is.moment;
  holders = is.holders;
  next = is.next;
  paths = same_paths run i a P Q same 0 reason.paths.items is.paths;
})

-- the moment of what is said has no more entries than there are
pub said_within : (run : RunParts) (i : Position) (said : UnsafeReceipt) (is : IsSaidOf run i said) → (q : ℕ) → cut_of said.moment q ≤ length (log_of run.entries q)
said_within run i said is q = by_judged run.judged said.at is.moment where
  by_judged : (j : Judged) (o : Option ℕ) → IsSaidAt run i said j o → cut_of said.moment q ≤ length (log_of run.entries q)
  by_judged AtItsEnd None end = (let same = ap (λ (cut : Cut). cut q) end.0 in omega (arith, same))
  by_judged AtItsEnd (Some p) no' = absurd no'
  by_judged AtEachMoment None no' = absurd no'
  by_judged AtEachMoment (Some p) moment = least_within (log_of run.entries) i moment.0 (cut_of said.moment) moment.1.candidate.moment q

-- those shown depend on the receipt there
pub shown_depends : (run : RunParts) (i : Position) (said : UnsafeReceipt) (is : IsSaidOf run i said) → (q : ℕ) → set.contains said.shown q ≡ true → DependsAt (log_of run.entries) (cut_of said.moment) i q
shown_depends run i said is q has = by_judged run.judged said.at is.moment where
  by_judged : (j : Judged) (o : Option ℕ) → IsSaidAt run i said j o → DependsAt (log_of run.entries) (cut_of said.moment) i q
  by_judged AtItsEnd None end = (let left = (is.orphans q).0 (ap (λ (s : Members). set.contains s q) (sym end.1) ∙ has) in left.1)
  by_judged AtItsEnd (Some p) no' = absurd no'
  by_judged AtEachMoment None no' = absurd no'
  by_judged AtEachMoment (Some p) moment = elim (cases_eq q moment.0) [
    | inl same ↦ subst (DependsAt (log_of run.entries) (cut_of said.moment) i) (sym same) moment.1.candidate.moment.depends
    | inr ne ↦ absurd (false≢true (sym (contains-insert_other set.empty moment.0 q ne ∙ set.contains-empty _ q) ∙ ap (λ (s : Members). set.contains s q) (sym moment.2) ∙ has))
  ]

-- one more with its reason
pub reasons_more : {X R : Type 0} (IsReason : X → R → Type 0) (xs : List X) (i : ℕ) (x : X) (reasons : List R) (r : R) → i < length xs → x ≡ get_or xs i x
    → AllZip IsReason (take i xs) reasons → IsReason x r → AllZip IsReason (take (i + 1) xs) (reasons ++ r ∷ [])
reasons_more {X} {R} IsReason xs i x reasons r below is told reason = rw (take_more xs i x below, ← is) (push (take i xs) reasons told) where
  push : (xs : List X) (rs : List R) → AllZip IsReason xs rs → AllZip IsReason (xs ++ x ∷ []) (rs ++ r ∷ [])
  push [] [] told = (reason, tt)
  push [] (r' ∷ rs) told = absurd told
  push (x' ∷ xs) [] told = absurd told
  push (x' ∷ xs) (r' ∷ rs) told = (told.0, push xs rs told.1)

-- ---- the next hold or store

-- the entry at the place has not come
abbrev pub HasNotCome : List Entry → Cut → ℕ → Type 0
HasNotCome entries cut place = (i : Position) × StandsAt entries place i × ¬ (HasCome cut i)

-- the hold or store at the place has not come
pub is_to_come : (entries : List Entry) (cut : Cut) (d : Determinant) (p : ℕ) → IsRecordAt entries d p → ((i : Position) → StandsAt entries p i → ¬ (HasCome cut i)) → IsToCome entries cut d p
is_to_come entries cut d p record' not = (
    let i = at (entry_member record'.0) (seen entries p (entry_member record'.0)) in
    let stands : StandsAt entries p i = (record'.0, record'.1, refl, refl) in
    (record', (i, stands, not i stands)))

-- ---- the moment

-- no entry is of a member above 15
pub no_entries : (n : ℕ) (entries : List Entry) → AreEntries n entries → (q : ℕ) → 16 ≤ q → length (log_of entries q) ≡ 0
no_entries n entries are q past = elim (cases_eq (length (log_of entries q)) 0) [
  | inl none ↦ none
  | inr some ↦ absurd (
      let e = some_entry (log_of entries q) 0 (omega (arith, some)) in
      let w = locate_all entries q 0 e.0 e.1 in
      let below = are.members w.0 e.0 w.2 in
      let own = w.3 in
      let size = are.size in
      omega (arith, below, own, size, past))
]

-- the counts of the 16 members are the moment
pub counts_are : (run : RunParts) → IsRun run → (cut : Cut) (counts : List ℕ) → length counts ≡ 16 → ((q : ℕ) → q < 16 → get_or counts q 0 ≡ cut q) → ((q : ℕ) → cut q ≤ length (log_of run.entries q)) → cut_in counts ≡ cut
counts_are run rules cut counts room is below = λ x q. each q x where
  each : (q : ℕ) → get_or counts q 0 ≡ cut q
  each q = elim (cases_lt q 16) [
    | inl less ↦ is q less
    | inr past ↦
        let none = no_entries run.members run.entries rules.lawful q past in
        let least = below q in
        let end = get_or_past counts q 0 (omega (arith, room, past)) in
        omega (arith, none, least, end)
  ]
