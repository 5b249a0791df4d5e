-- What a pass over entries knows of the members' lives.
use Rattle.std.specs.Prelude.{ℕ, ◌≡◌, ◌≢◌, ◌+◌, ◌<◌, ◌≤◌, ◌++◌, ◌∷◌, Bool, false, List, [], Option, Some, None, filter, length, map, slice_get, take, if◌then◌else◌}
use Rattle.std.specs.HashMap as hash_map
use Rattle.fbl_trace.specs.declared.trace.Mark.{Mark}
use Rattle.fbl_trace.specs.declared.trace.Mark.TheVariants.{Send}
use Rattle.fbl_runs.specs.declared.control.ControlMessage.{ControlMessage}
use Rattle.fbl_runs.specs.declared.entry.Entry.{Entry}
use Rattle.fbl_runs.specs.declared.entry.Entry.TheVariants.{Event, Restart, Tell}
use Rattle.fbl_runs.specs.declared.entry.Restart as restart
use Rattle.fbl_runs.specs.declared.links.Link.{Link}
use Rattle.fbl_runs.specs.declared.lives.KnownLog.{KnownLog}
use Rattle.fbl_runs.specs.declared.lives.Life.{Life}
use Rattle.fbl_runs.specs.declared.lives.Lives.{Lives}
use Rattle.fbl_runs.specs.declared.lives.StandingEvent.{StandingEvent}
use Rattle.fbl_runs.specs.Clocks.{StandsAt}
use Rattle.fbl_runs.specs.ControlMessages.{Has, same_control}
use Rattle.fbl_runs.specs.Entries.{log_of}
use Rattle.fbl_runs.specs.HappenedBefore.{Position, at}
use Rattle.fbl_runs.specs.Links.{IsLink, IsPlaceOf}
use Rattle.fbl_runs.specs.Lives.{IsUndoneBy, life_in, standing}
use Rattle.fbl_runs.specs.Rules.{AreLawful, is_send, restarts}

-- the events are the log's entries with these numbers, in order
pub record AreEvents (log : List Entry) (kept : List ℕ) (events : List StandingEvent) : Type 0 where
  pub numbers : map (λ e. e.number) events ≡ kept
  pub entries : (i : ℕ) (e : StandingEvent) → slice_get events i ≡ Some e → slice_get log e.number ≡ Some e.entry

-- those that stand behind one entry more, with this number
abbrev pub events_after : Option restart.Restart → Option Mark → Entry → ℕ → List StandingEvent → List StandingEvent
events_after (Some r) mark e number events = take (r.receipts + r.sends) events
events_after None (Some m) e number events = events ++ record { number = number; entry = e } ∷ []
events_after None None e number events = events

-- the entry, with its number, if it is a send
abbrev pub sent_now : Entry → ℕ → List StandingEvent
sent_now e number = if is_send e then record { number = number; entry = e } ∷ [] else []

-- whom the entry sends a message to, if it is a send
abbrev pub sent_to : Entry → Option ℕ
sent_to (Event (Send from ssn to)) = Some to
sent_to e = None

-- whether the entry with the number is a send
abbrev pub is_send_in : Option Entry → Bool
is_send_in (Some e) = is_send e
is_send_in None = false

abbrev pub is_send_at : List Entry → ℕ → Bool
is_send_at log number = is_send_in (slice_get log number)

-- the numbers of the sends that stand behind the first x entries, in order: the first one has the send number 1
abbrev pub sends_behind : List Entry → ℕ → List ℕ
sends_behind log x = filter (is_send_at log) (standing (take x log))

-- in none of the first x entries the member restarts; or else the last of them that restarts has the number
abbrev pub IsLastRestartBehind : List Entry → ℕ → Option ℕ → Type 0
IsLastRestartBehind log x None = (k : ℕ) (r : restart.Restart) → k < x → slice_get log k ≢ Some (Restart r)
IsLastRestartBehind log x (Some number) =
    (number < x) × ((r : restart.Restart) × (slice_get log number ≡ Some (Restart r)))
    × ((k : ℕ) (r : restart.Restart) → number < k → k < x → slice_get log k ≢ Some (Restart r))

-- it is the member's life behind the first x entries, which are those up to its end, or up to now
pub record IsLifeBehind (log : List Entry) (x : ℕ) (l : Life) : Type 0 where
  pub within : x ≤ length log
  pub life : l.life ≡ life_in (take x log)
  pub last : (y : ℕ) → y ≤ length log → life_in (take y log) ≡ l.life → y ≤ x
  pub restart : IsLastRestartBehind log x l.restart
  pub sends : AreEvents log (sends_behind log x) l.sends.items

-- it is a life of its member
abbrev pub IsLifeOf : List Entry → Life → Type 0
IsLifeOf before life = (x : ℕ) × IsLifeBehind (log_of before life.member) x life

-- the life with the number is this one of the member
abbrev pub IsLifeAt : List Life → ℕ → ℕ → ℕ → Type 0
IsLifeAt lives number member life = (l : Life) × (slice_get lives number ≡ Some l) × (l.member ≡ member) × (l.life ≡ life)

-- the places are those of the entries of the member's log
pub record ArePlaces (entries log : List Entry) (q : ℕ) (places : List ℕ) : Type 0 where
  pub count : length places ≡ length log
  pub each : (k p : ℕ) → slice_get places k ≡ Some p → StandsAt entries p (at q k)

-- what is known of the member's log: where its entries stand, which of its events stand, and the number of its life
pub record IsKnownLog (before : List Entry) (lives : List Life) (member : ℕ) (known : KnownLog) : Type 0 where
  pub places : ArePlaces before (log_of before member) member known.places.items
  pub standing : AreEvents (log_of before member) (standing (log_of before member)) known.standing.items
  pub life : IsLifeAt lives known.life member (life_in (log_of before member))

-- the place is that of the tell, if there is one
abbrev pub IsTellPlace : List Entry → ControlMessage → Option ℕ → Type 0
IsTellPlace before m None = ¬ (Has before (Tell m))
IsTellPlace before m (Some place) = slice_get before place ≡ Some (Tell m)

-- the pass has seen these entries, which obey the rules: it knows the members' logs, and their lives, at most 24
pub record HasLived (before : List Entry) (known : Lives) : Type 0 where
  pub lawful : (n : ℕ) × AreLawful n before
  pub logs : (member : ℕ) (log : KnownLog) → slice_get known.logs.items member ≡ Some log → IsKnownLog before known.lives.items member log
  pub outside : (member : ℕ) → 16 ≤ member → log_of before member ≡ []
  pub count : length known.lives.items ≡ 16 + restarts before
  pub each : (number : ℕ) (life : Life) → slice_get known.lives.items number ≡ Some life → IsLifeOf before life
  pub one : (a b member life : ℕ) → IsLifeAt known.lives.items a member life → IsLifeAt known.lives.items b member life → a ≡ b
  pub all : (member x : ℕ) → member < 16 → x ≤ length (log_of before member) → (number : ℕ) × IsLifeAt known.lives.items number member (life_in (take x (log_of before member)))
  pub tells : (m : ControlMessage) → IsTellPlace before m (hash_map.get same_control known.tells m)

-- the place is that of the restart that begins the member's life; none begins the first one, and none a life that did not begin
abbrev pub IsBeginning : List Entry → ℕ → ℕ → Option ℕ → Type 0
IsBeginning before member life None = (k : ℕ) (r : restart.Restart) → slice_get (log_of before member) k ≡ Some (Restart r) → r.life ≢ life
IsBeginning before member life (Some place) =
    (k : ℕ) × (r : restart.Restart) × StandsAt before place (at member k) × (slice_get (log_of before member) k ≡ Some (Restart r)) × (r.life ≡ life)

-- what a pass finds of the entry when it comes: its link, but for what undoes it, and the number of its life
pub record IsNewLink (entries : List Entry) (lives : List Life) (j : Position) (link : Link) : Type 0 where
  pub but_undone : (undone : Option ℕ) → IsPlaceOf entries (λ i. (i.member ≡ j.member) × IsUndoneBy (log_of entries j.member) j.number i.number) undone
      → IsLink entries j (record link { undone = undone })
  pub life : IsLifeAt lives link.life j.member (life_in (take (j.number + 1) (log_of entries j.member)))
  pub few : link.life < 24
