-- Which entries may follow which: the rules of sends, receipts, control messages and restarts.
use Rattle.std.specs.Prelude.{ℕ, ◌≡◌, ◌≢◌, ◌+◌, ◌<◌, ◌≤◌, ◌⊎◌, Bool, true, false, List, Some, count_by, filter_map, length, slice_get, take}
use Rattle.std.specs.List.{Contains, list_any}
use Rattle.fbl_trace.specs.Breaches.{AreEndsAllowed, IsEndOutside, IsOutside}
use Rattle.fbl_trace.specs.Events.{destination_of, number_of, source_of}
use Rattle.fbl_trace.specs.declared.trace.Determinant.{Determinant}
use Rattle.fbl_trace.specs.declared.trace.Mark.{Mark}
use Rattle.fbl_trace.specs.declared.trace.Mark.TheVariants.{Receipt, Send}
use Rattle.fbl_runs.specs.declared.entry.Restart as restart
use Rattle.fbl_runs.specs.declared.entry.Entry.{Entry}
use Rattle.fbl_runs.specs.declared.entry.Entry.TheVariants.{Event, LaterReceipt, Restart}
use Rattle.fbl_runs.specs.declared.fault.LifeFault.{LifeFault}
use Rattle.fbl_runs.specs.declared.fault.LifeRule.{LifeRule}
use Rattle.fbl_runs.specs.declared.fault.LifeRule.TheVariants.{ControlMessages, NotDue, NotLater, OtherReceipts, Outside, Stood, ToItself, TooMany, TooManyRestarts, WrongNumber}
use Rattle.fbl_runs.specs.ControlMessages.{BreaksControl, MayBeTold}
use Rattle.fbl_runs.specs.Entries.{Logs, log_of, mark_in, marks, named_life, receipt_in, restart_in}
use Rattle.fbl_runs.specs.HappenedBefore.{Carries, IsAt, at}
use Rattle.fbl_runs.specs.Lives.{StandsInLife, life_in, standing}

-- ---- what each run obeys, whatever its channels do

-- how many of the log's events that stand are sends, and receipts
abbrev pub is_send : Entry → Bool
is_send (Event (Send from ssn to)) = true
is_send e = false

abbrev pub is_receipt : Entry → Bool
is_receipt (Event (Receipt to rsn from ssn)) = true
is_receipt (LaterReceipt d life) = true
is_receipt e = false

abbrev pub entries_at : List Entry → List ℕ → List Entry
entries_at log numbers = filter_map (slice_get log) numbers

abbrev pub sends_standing : List Entry → ℕ
sends_standing log = count_by is_send (entries_at log (standing log))

abbrev pub receipts_standing : List Entry → ℕ
receipts_standing log = count_by is_receipt (entries_at log (standing log))

-- the send of the message stands in this life of its sender
abbrev pub IsSentInLife : Logs → ℕ → ℕ → ℕ → ℕ → ℕ → Type 0
IsSentInLife logs from ssn to life k = IsAt logs (at from k) (Event (Send from ssn to)) × StandsInLife (logs from) life k

-- how many restarts there are
abbrev pub is_restart : Entry → Bool
is_restart (Restart r) = true
is_restart e = false

abbrev pub restarts : List Entry → ℕ
restarts entries = count_by is_restart entries

-- behind these the entry has its member's next number, if it is a send; its message was sent, if it is a receipt; it obeys the rules of
-- control messages; and a restart begins a later life, and is among the first 8
abbrev pub IsLawful : ℕ → List Entry → Entry → Type 0
IsLawful n before (Event (Send from ssn to)) = ssn ≡ sends_standing (log_of before from) + 1
IsLawful n before (Event (Receipt to rsn from ssn)) = (k : ℕ) × IsSentInLife (log_of before) from ssn to 0 k
IsLawful n before (LaterReceipt d life) = (k : ℕ) × IsSentInLife (log_of before) d.from d.ssn d.to life k
IsLawful n before (Restart r) = (life_in (log_of before r.member) < r.life) × (restarts before < 8)
IsLawful n before e = MayBeTold n before e

-- each entry does
abbrev pub AreLawful : ℕ → List Entry → Type 0
AreLawful n entries = (i : ℕ) (e : Entry) → slice_get entries i ≡ Some e → IsLawful n (take i entries) e

-- ---- what the entries of a log with restarts obey

-- whether the entry is a restart, or a receipt that names a later life
abbrev pub has_life : Entry → Bool
has_life (LaterReceipt d life) = true
has_life (Restart r) = true
has_life e = false

abbrev pub have_lives : List Entry → Bool
have_lives entries = list_any has_life entries

-- a receipt of the member that stands takes the send
abbrev pub IsTaken : Logs → ℕ → ℕ → ℕ → Type 0
IsTaken logs from to k = (j : ℕ) × Contains (standing (logs to)) j × Carries logs (at from k) (at to j)

-- a receipt of the member that stands takes a message from the sender whose number is at least this
abbrev pub IsReached : Logs → ℕ → ℕ → ℕ → Type 0
IsReached logs from to ssn =
    (j : ℕ) × (e : Entry) × (d : Determinant) × Contains (standing (logs to)) j × IsAt logs (at to j) e × (receipt_in e ≡ Some d) × (d.from ≡ from) × (ssn ≤ d.ssn)

-- the member may take the message that stands in this life of its sender: no receipt of it that stands takes it, and each earlier one there
-- to the member is taken, or was overtaken: a receiver drops by its number what it has
pub record IsDue (logs : Logs) (from ssn to life : ℕ) : Type 0 where
  pub send : ℕ
  pub sent : IsSentInLife logs from ssn to life send
  pub untaken : ¬ (IsTaken logs from to send)
  pub next : (number k : ℕ) → number < ssn → IsSentInLife logs from number to life k → IsTaken logs from to k ⊎ IsReached logs from to number

-- the member's next number
abbrev pub next_in : Logs → Mark → ℕ
next_in logs (Send from ssn to) = sends_standing (logs from) + 1
next_in logs (Receipt to rsn from ssn) = receipts_standing (logs to) + 1

-- a receipt takes what its member may take
abbrev pub MayTake : Logs → Mark → ℕ → Type 0
MayTake logs (Send from ssn to) life = Unit {0}
MayTake logs (Receipt to rsn from ssn) life = IsDue logs from ssn to life

-- the restart keeps events that stand, of which so many are receipts
abbrev pub KeepsReceipts : List Entry → restart.Restart → Type 0
KeepsReceipts log r = count_by is_receipt (entries_at log (take (r.receipts + r.sends) (standing log))) ≡ r.receipts

-- behind these the send or receipt, which names this life of its sender, breaks the rule first
abbrev pub BreaksEvent : ℕ → List Entry → Mark → ℕ → LifeRule → Type 0
BreaksEvent n before m life TooMany = 8192 ≤ length (marks before)
BreaksEvent n before m life (Outside outsider) = (length (marks before) < 8192) × IsEndOutside n (source_of m) (destination_of m) outsider
BreaksEvent n before m life ToItself = (length (marks before) < 8192) × (source_of m < n) × (destination_of m < n) × (source_of m ≡ destination_of m)
BreaksEvent n before m life (WrongNumber wanted) =
    (length (marks before) < 8192) × AreEndsAllowed n m × (wanted ≡ next_in (log_of before) m) × (number_of m ≢ wanted)
BreaksEvent n before m life NotDue =
    (length (marks before) < 8192) × AreEndsAllowed n m × (number_of m ≡ next_in (log_of before) m) × ¬ (MayTake (log_of before) m life)
BreaksEvent n before m life rule = ⊥

-- behind these the restart breaks the rule first
abbrev pub BreaksRestart : ℕ → List Entry → restart.Restart → LifeRule → Type 0
BreaksRestart n before r TooManyRestarts = 8 ≤ restarts before
BreaksRestart n before r (Outside outsider) = (restarts before < 8) × IsOutside n r.member outsider
BreaksRestart n before r (NotLater life) = (restarts before < 8) × (r.member < n) × (life ≡ life_in (log_of before r.member)) × (r.life ≤ life)
BreaksRestart n before r (Stood count) =
    (restarts before < 8) × (r.member < n) × (life_in (log_of before r.member) < r.life) × (count ≡ length (standing (log_of before r.member)))
    × (count < r.receipts + r.sends)
BreaksRestart n before r OtherReceipts =
    (restarts before < 8) × (r.member < n) × (life_in (log_of before r.member) < r.life) × (r.receipts + r.sends ≤ length (standing (log_of before r.member)))
    × ¬ (KeepsReceipts (log_of before r.member) r)
BreaksRestart n before r rule = ⊥

-- behind these the send or receipt, which names this life of its sender, breaks no rule, in a group of n
abbrev pub MayHappen : ℕ → List Entry → Mark → ℕ → Type 0
MayHappen n before m life = (length (marks before) < 8192) × AreEndsAllowed n m × (number_of m ≡ next_in (log_of before) m) × MayTake (log_of before) m life

-- nor does the restart
abbrev pub MayRestart : ℕ → List Entry → restart.Restart → Type 0
MayRestart n before r =
    (restarts before < 8) × (r.member < n) × (life_in (log_of before r.member) < r.life) × (r.receipts + r.sends ≤ length (standing (log_of before r.member)))
    × KeepsReceipts (log_of before r.member) r

-- nor does the entry
abbrev pub MayFollow : ℕ → List Entry → Entry → Type 0
MayFollow n before e =
    ((m : Mark) → mark_in e ≡ Some m → MayHappen n before m (named_life e)) × ((r : restart.Restart) → restart_in e ≡ Some r → MayRestart n before r) × MayBeTold n before e

-- it breaks this one first
abbrev pub BreaksLife : ℕ → List Entry → Entry → LifeRule → Type 0
BreaksLife n before e (ControlMessages rule) = BreaksControl n before e rule
BreaksLife n before e rule =
    ((m : Mark) × (mark_in e ≡ Some m) × BreaksEvent n before m (named_life e) rule) ⊎ ((r : restart.Restart) × (restart_in e ≡ Some r) × BreaksRestart n before r rule)

-- the entry at the place, if there is one, breaks none behind those before it
abbrev pub FollowsAt : ℕ → List Entry → ℕ → Type 0
FollowsAt n entries i = (e : Entry) → slice_get entries i ≡ Some e → MayFollow n (take i entries) e

-- the fault is of the first entry that breaks one, and names it and the rule
abbrev pub IsFirstLifeFault : ℕ → List Entry → LifeFault → Type 0
IsFirstLifeFault n entries fault =
    ((i : ℕ) → i < fault.place → FollowsAt n entries i) × (slice_get entries fault.place ≡ Some fault.entry) × BreaksLife n (take fault.place entries) fault.entry fault.rule
