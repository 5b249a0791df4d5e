-- The entry around which a run is drawn.
use Rattle.fbl_runs.specs.declared.sources.Sources.{Sources}
use Rattle.std.specs.Prelude.{IfSome}
use Rattle.fbl_program.specs.Arounds.{IsAround}
use Rattle.fbl_program.proofs.Common.{ℕ, ◌<◌, ◌≡◌, Bor, List, None, Option, Some, subst}

-- it is one of the entries
pub placed : (sources : Sources) (count n : ℕ) (words : Option (Bor (List ℕ))) (around : Option ℕ) → count ≡ n → IsAround sources count words around
    → IfSome around (λ place. place < n)
placed sources count n None None is asked = tt
placed sources count n None (Some place) is asked = absurd cc
placed sources count n (Some words) None is asked = absurd asked
placed sources count n (Some words) (Some place) is asked = subst (λ (m : ℕ). place < m) is asked.0
