-- Causal precedence between the entries of logs: happened-before (Lamport 1978), made reflexive, and what carries dependence (Alvisi and
-- Marzullo 1998).
use Rattle.std.specs.Prelude.{ℕ, ◌≡◌, ◌+◌, ◌<◌, ◌⊎◌, Some, slice_get}
use Rattle.fbl_trace.specs.declared.trace.Determinant.{Determinant}
use Rattle.fbl_trace.specs.declared.trace.Mark.{Mark}
use Rattle.fbl_trace.specs.Events.{send_of}
use Rattle.fbl_runs.specs.declared.causality.Causality.{Causality}
use Rattle.fbl_runs.specs.declared.causality.Causality.TheVariants.{Dependence, HappenedBefore}
use Rattle.fbl_runs.specs.declared.control.ControlMessage.{ControlMessage}
use Rattle.fbl_runs.specs.declared.entry.Restart as restart
use Rattle.fbl_runs.specs.declared.entry.Entry.{Entry}
use Rattle.fbl_runs.specs.declared.entry.Entry.TheVariants.{Event, LaterReceipt, Restart, Tell, Told}
use Rattle.fbl_runs.specs.Entries.{Logs, mark_in, named_life}
use Rattle.fbl_runs.specs.Lives.{StandsBehind, StandsInLife}

-- where an entry stands: in the member's log, behind so many others
pub record Position : Type 0 where
  pub member : ℕ
  pub number : ℕ

-- the member's entry with the number
abbrev pub at : ℕ → ℕ → Position
at member number = record { member = member; number = number }

abbrev pub IsAt : Logs → Position → Entry → Type 0
IsAt logs i e = slice_get (logs i.member) i.number ≡ Some e

-- both are of one member, and the one comes before the other
abbrev pub IsEarlier : Logs → Position → Position → Type 0
IsEarlier logs i j = (a : Entry) × (b : Entry) × IsAt logs i a × IsAt logs j b × (i.member ≡ j.member) × (i.number < j.number)

-- and it stood when the other came: where that is a restart, it was kept
abbrev pub StoodBefore : Logs → Position → Position → Type 0
StoodBefore logs i j = IsEarlier logs i j × StandsBehind (logs i.member) i.number (j.number + 1)

-- the receipt at the second takes the message of the send at the first, which stands in the life of its member that the receipt names
abbrev pub Carries : Logs → Position → Position → Type 0
Carries logs i j =
    (s : Mark) × (r : Mark) × (b : Entry) × IsAt logs i (Event s) × IsAt logs j b × (mark_in b ≡ Some r) × (send_of r ≡ Some s)
    × StandsInLife (logs i.member) (named_life b) i.number

-- the second is told what the first tells
abbrev pub Tells : Logs → Position → Position → Type 0
Tells logs i j = (m : ControlMessage) × IsAt logs i (Tell m) × IsAt logs j (Told m)

-- the first begins the life of the sender that the receipt at the second names
abbrev pub Begins : Logs → Position → Position → Type 0
Begins logs i j = (r : restart.Restart) × (d : Determinant) × IsAt logs i (Restart r) × IsAt logs j (LaterReceipt d r.life) × (d.from ≡ i.member)

-- one step of causality: to a later entry of the same member, by a message, from a send to its receipt, by a control message, or from a
-- restart to a receipt of what was sent, or kept, in the life that it begins. Dependence is carried by what stood, and by messages
abbrev pub Leads : Causality → Logs → Position → Position → Type 0
Leads HappenedBefore logs i j = IsEarlier logs i j ⊎ Carries logs i j ⊎ Tells logs i j ⊎ Begins logs i j
Leads Dependence logs i j = StoodBefore logs i j ⊎ Carries logs i j

-- a path of steps leads from the one to the other
pub data Precedes (c : Causality) (logs : Logs) (i : Position) : Position → Type 0 where
  itself : {a : Entry} → IsAt logs i a → Precedes c logs i i
  step : {j k : Position} → Precedes c logs i j → Leads c logs j k → Precedes c logs i k
