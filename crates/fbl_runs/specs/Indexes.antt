-- What an index keeps of the entries, and where a step ends.
use Rattle.std.specs.Prelude.{ℕ, ◌≡◌, ◌<◌, List, Some, slice_get}
use Rattle.fbl_runs.specs.declared.entry.Entry.{Entry}
use Rattle.fbl_runs.specs.declared.links.Link.{Link}
use Rattle.fbl_runs.specs.declared.lives.Lives.{Lives}
use Rattle.fbl_runs.specs.Entries.{IsRecord}
use Rattle.fbl_runs.specs.KnownLives.{HasLived}
use Rattle.fbl_runs.specs.Links.{AreLinks}

-- what an index keeps of the entries
pub record IsIndex (entries : List Entry) (known : Lives) (leading : List Link) : Type 0 where
  pub lives : HasLived entries known
  pub links : AreLinks entries leading

-- behind the entry at l stand holds and stores up to the end, and there is none at the end
pub record EndsStep (log : List Entry) (l end : ℕ) : Type 0 where
  pub after : l < end
  pub records : (k : ℕ) → l < k → k < end → (e : Entry) × (slice_get log k ≡ Some e) × IsRecord e
  pub last : (e : Entry) → slice_get log end ≡ Some e → ¬ (IsRecord e)
