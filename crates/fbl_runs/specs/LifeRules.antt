-- What a pass over the entries of a log with restarts knows.
use Rattle.std.specs.Prelude.{ℕ, ◌≡◌, ◌≤◌, List, Some, length}
use Rattle.fbl_trace.specs.declared.trace.Mark.{Mark}
use Rattle.fbl_trace.specs.Events.{send_of}
use Rattle.fbl_runs.specs.declared.entry.Entry.{Entry}
use Rattle.fbl_runs.specs.declared.entry.Entry.TheVariants.{Event}
use Rattle.fbl_runs.specs.declared.life_rules.LifeRules.{LifeRules}
use Rattle.fbl_runs.specs.ControlMessages.{HasTold}
use Rattle.fbl_runs.specs.Entries.{Logs, mark_in, marks, named_life}
use Rattle.fbl_runs.specs.HappenedBefore.{IsAt, at}
use Rattle.fbl_runs.specs.KnownLives.{HasLived}
use Rattle.fbl_runs.specs.Lives.{StandsInLife}

-- the entry is a receipt of the message that the member's entry with the number sends, in the life that the receipt names
abbrev pub TakesSend : Logs → ℕ → ℕ → Entry → Type 0
TakesSend logs from k e =
    (s : Mark) × (r : Mark) × IsAt logs (at from k) (Event s) × (mark_in e ≡ Some r) × (send_of r ≡ Some s) × StandsInLife (logs from) (named_life e) k

-- the pass has seen these entries: it knows the members' lives, what was told, and how many sends and receipts there are
pub record HasFollowed (before : List Entry) (known : LifeRules) : Type 0 where
  pub lived : HasLived before known.lives
  pub told : HasTold before known.told
  pub count : known.count ≡ length (marks before)
  pub few : known.count ≤ 8192
