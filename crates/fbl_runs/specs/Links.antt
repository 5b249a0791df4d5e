-- What leads to each entry at once, found by one pass over the entries.
use Rattle.std.specs.Prelude.{ℕ, ◌≡◌, ◌<◌, ◌≤◌, ◌↔◌, ◌⊎◌, List, length, Option, Some, None, slice_get}
use Rattle.std.specs.Option.{option_or}
use Rattle.fbl_runs.specs.declared.entry.Restart as restart
use Rattle.fbl_runs.specs.declared.entry.Entry.{Entry}
use Rattle.fbl_runs.specs.declared.entry.Entry.TheVariants.{Restart}
use Rattle.fbl_runs.specs.declared.links.Link.{Link}
use Rattle.fbl_runs.specs.declared.lives.StandingEvent.{StandingEvent}
use Rattle.fbl_runs.specs.Clocks.{StandsAt}
use Rattle.fbl_runs.specs.Entries.{Logs, log_of}
use Rattle.fbl_runs.specs.HappenedBefore.{Begins, Carries, IsAt, IsEarlier, Position, StoodBefore, Tells, at}
use Rattle.fbl_runs.specs.Lives.{IsUndoneBy}

-- the place of one of these positions, if there is one, to which all the others lead by P
abbrev pub IsLastPlace : List Entry → (Position → Type 0) → (Position → Position → Type 0) → Option ℕ → Type 0
IsLastPlace entries Q P None = (i : Position) → ¬ (Q i)
IsLastPlace entries Q P (Some place) = (i : Position) × StandsAt entries place i × Q i × ((k : Position) → Q k → (k ≡ i) ⊎ P k i)

-- the place of the one of these positions, if there is one
abbrev pub IsPlaceOf : List Entry → (Position → Type 0) → Option ℕ → Type 0
IsPlaceOf entries Q found = IsLastPlace entries Q (λ i j. ⊥) found

-- one message, or control message, comes in with the entry
abbrev pub IsMessageOf : Logs → Position → Position → Type 0
IsMessageOf logs j i = Carries logs i j ⊎ Tells logs i j

-- what leads to the entry at the position at once
pub record IsLink (entries : List Entry) (j : Position) (link : Link) : Type 0 where
  pub number : link.number ≡ j.number
  pub previous : IsLastPlace entries (λ i. IsEarlier (log_of entries) i j) (IsEarlier (log_of entries)) link.previous
  pub stood : IsLastPlace entries (λ i. StoodBefore (log_of entries) i j) (StoodBefore (log_of entries)) link.stood
  pub message : IsPlaceOf entries (IsMessageOf (log_of entries) j) link.message
  pub begins : IsPlaceOf entries (λ i. Begins (log_of entries) i j) link.begins
  pub undone : IsPlaceOf entries (λ i. (i.member ≡ j.member) × IsUndoneBy (log_of entries j.member) j.number i.number) link.undone

-- both entries are of one life of one member: no restart stands from the one to the other
abbrev pub AreOfOneLife : Logs → Position → Position → Type 0
AreOfOneLife logs i j =
    (i.member ≡ j.member) × ((k : ℕ) (r : restart.Restart) → IsAt logs (at i.member k) (Restart r) → ((k ≤ i.number) ↔ (k ≤ j.number)))

-- each entry of the list has its link, at its place, and those of one life, and no others, have the number of their life
pub record AreLinks (entries : List Entry) (links : List Link) : Type 0 where
  pub count : length links ≡ length entries
  pub each : (p : ℕ) (j : Position) (link : Link) → StandsAt entries p j → slice_get links p ≡ Some link → IsLink entries j link
  pub life : (p q : ℕ) (i j : Position) (a b : Link) → StandsAt entries p i → StandsAt entries q j → slice_get links p ≡ Some a → slice_get links q ≡ Some b
      → (a.life ≡ b.life) ↔ AreOfOneLife (log_of entries) i j
  pub few : (p : ℕ) (link : Link) → slice_get links p ≡ Some link → link.life < 24

-- ---- a pass

-- the link, where a restart at the place undoes the entry if nothing did before, and where nothing undoes it
abbrev pub undone_at : ℕ → Link → Link
undone_at place link = record link { undone = option_or link.undone (Some place) }

abbrev pub kept : Link → Link
kept link = record link { undone = None }

-- it is the place of an event, of a log whose entries have these places
abbrev pub IsPlaceOfEvent : List ℕ → List StandingEvent → ℕ → Type 0
IsPlaceOfEvent places events p = (i : ℕ) × (e : StandingEvent) × (slice_get events i ≡ Some e) × (slice_get places e.number ≡ Some p)

-- the links at these places are changed, and the others are not
pub record AreChanged (P : ℕ → Type 0) (change : Link → Link) (old new : List Link) : Type 0 where
  pub count : length new ≡ length old
  pub each : (p : ℕ) (a : Link) → slice_get old p ≡ Some a → (b : Link) × (slice_get new p ≡ Some b) × ((P p × (b ≡ change a)) ⊎ (¬ (P p) × (b ≡ a)))
