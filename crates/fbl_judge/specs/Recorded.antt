-- What the holds and stores of a list record at a cut.
use Rattle.std.specs.Prelude.{ℕ, ◌≡◌, List, Some, slice_get}
use Rattle.fbl_trace.specs.declared.trace.Determinant.{Determinant}
use Rattle.fbl_runs.specs.declared.entry.Entry.{Entry}
use Rattle.fbl_runs.specs.declared.entry.Entry.TheVariants.{Hold, Store}
use Rattle.fbl_runs.specs.Clocks.{StandsAt}
use Rattle.fbl_runs.specs.Entries.{log_of}
use Rattle.fbl_runs.specs.HappenedBefore.{Position, at}
use Rattle.fbl_runs.specs.Moments.{Cut, HasCome, Stands}

-- the entry at the place is a hold of the member, and stands at the cut
abbrev pub HoldsBy : List Entry → Cut → ℕ → ℕ → Type 0
HoldsBy entries cut q place = (d : Determinant) × (k : ℕ) × (slice_get entries place ≡ Some (Hold q d)) × StandsAt entries place (at q k) × Stands (log_of entries) cut (at q k)

-- it is a store, and has come at the cut
abbrev pub StoresBy : List Entry → Cut → ℕ → Type 0
StoresBy entries cut place = (d : Determinant) × (i : Position) × (slice_get entries place ≡ Some (Store i.member d)) × StandsAt entries place i × HasCome cut i
