-- What happened after an entry, and the moment at which a restart comes.
use Rattle.fbl_verdicts.proofs.Common.{ℕ, ◌≡◌, ◌<◌, ◌≤◌, ◌+◌, inl, inr, zero, suc, List, [], ◌∷◌, get_or, length, refl, ap, sym, subst, arith, cases_eq}
use Rattle.fbl_judge.specs.declared.undone.UndoneReceipt.{UndoneReceipt}
use Rattle.fbl_judge.specs.Undone.{IsSaidUndone, SaysUndone}
use Rattle.fbl_runs.specs.declared.entry.Entry.{Entry}
use Rattle.fbl_runs.specs.Logs.{RunParts}
use Rattle.fbl_runs.proofs.Listing.{some_entry}
use Rattle.fbl_runs.specs.declared.causality.Causality.TheVariants.{HappenedBefore}
use Rattle.fbl_runs.specs.Entries.{Logs}
use Rattle.fbl_runs.specs.HappenedBefore.{Position, Precedes, at, step}
use Rattle.fbl_verdicts.specs.UndoneReasons.{IsCountAt}

-- where an entry of a member's happened after, so did those behind it
pub happened_later : (logs : Logs) (r : Position) (m k l : ℕ) → k ≤ l → l < length (logs m) → Precedes HappenedBefore logs r (at m k) → Precedes HappenedBefore logs r (at m l)
happened_later logs r m k l order within path = elim (cases_eq k l) [
  | inl same ↦ subst (λ (n : ℕ). Precedes HappenedBefore logs r (at m n)) same path
  | inr ne ↦
      let a = some_entry (logs m) k (omega (arith, order, within)) in
      let b = some_entry (logs m) l within in
      step path (inl (a.0, b.0, a.1, b.1, refl, omega (arith, order, ne)))
]

-- a member that has no entries
pub none_of : (logs : Logs) (r : Position) (m count : ℕ) → r.number < length (logs r.member) → length (logs m) ≡ 0 → count ≡ 0 → IsCountAt logs r m count
none_of logs r m count there none is = inr (
  λ same. (let log = ap (λ (m : ℕ). length (logs m)) same in omega (arith, log, none, there)),
  record {
    within = omega (arith, is);
    beside = λ k below path. omega (arith, is, below);
    after = λ k past within. absurd (omega (arith, none, within));
  },
)

-- the first is said of a receipt, and each of the others is
first_said : (run : RunParts) (i : Position) (first : UndoneReceipt) (rest : List UndoneReceipt) → IsSaidUndone run i first
    → ((k : ℕ) (d : UndoneReceipt) → k < length rest → (i : Position) × IsSaidUndone run i (get_or rest k d))
    → (k : ℕ) (d : UndoneReceipt) → k < length (first ∷ rest) → (i : Position) × IsSaidUndone run i (get_or (first ∷ rest) k d)
first_said run i first rest is others zero d below = (i, is)
first_said run i first rest is others (suc k) d below = others k d (omega (arith, below))

-- each of what is said is said of a receipt
pub each_said : (run : RunParts) (place : ℕ) (entries : List Entry) (said : List UndoneReceipt) → SaysUndone run place entries said → (k : ℕ) (d : UndoneReceipt) → k < length said
    → (i : Position) × IsSaidUndone run i (get_or said k d)
each_said run place [] said none k d below = absurd (let zero = ap (λ (s : List UndoneReceipt). length s) none in omega (arith, zero, below))
each_said run place (e ∷ entries) said (inl rest) k d below = each_said run (place + 1) entries said rest.1 k d below
each_said run place (e ∷ entries) said (inr r) k d below = subst (λ (s : List UndoneReceipt). k < length s → (i : Position) × IsSaidUndone run i (get_or s k d)) (sym r.3)
    (first_said run r.0 r.1 r.2 r.5 (each_said run (place + 1) entries r.2 r.6) k d) below
