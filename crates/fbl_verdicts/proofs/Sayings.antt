-- What is said of a run's receipts.
use Rattle.std.specs.List.{All}
use Rattle.fbl_judge.specs.Unsafe.{IsSaidOf, SaysUnsafe}
use Rattle.fbl_judge.specs.declared.check.UnsafeReceipt.{UnsafeReceipt}
use Rattle.fbl_runs.specs.HappenedBefore.{Position}
use Rattle.fbl_runs.specs.Logs.{RunParts}
use Rattle.fbl_runs.specs.declared.entry.Entry.{Entry}
use Rattle.fbl_verdicts.proofs.Common.{ℕ, List, [], ◌∷◌, ◌+◌, arith, inl, inr}
use Rattle.std.proofs.lemmas.List.Elements.{All-cons}

-- each is of a receipt of the run
pub all_said : (run : RunParts) (place : ℕ) (entries : List Entry) (said : List UnsafeReceipt) → SaysUnsafe run place entries said → All (λ u. (i : Position) × IsSaidOf run i u) said
all_said run place [] said says = rw says (λ k u inside. absurd (omega (arith, inside)))
all_said run place (e ∷ entries) said (inl says) = all_said run (place + 1) entries said says.1
all_said run place (e ∷ entries) said (inr (i, first, rest, is, at, of, says)) =
    rw is (All-cons (λ u. (i : Position) × IsSaidOf run i u) first rest (i, of) (all_said run (place + 1) entries rest says))
