-- Runs of turns that are recorded: of each turn that made a receipt, what it did.
use Rattle.std.specs.Prelude.{◌≡◌, ℕ, ◌+◌, ◌<◌, ◌==◌, Bool, List, [], ◌∷◌, ◌++◌, length, slice_get, slice_index, sum, sum_by, count_by, Option, Some, None, option_map, if◌then◌else◌}
use Rattle.fbl_trace.specs.Fold.{Next}
use Rattle.fbl_trace.specs.declared.strike.Strike.{Strike}
use Rattle.fbl_trace.specs.declared.ticket.Ticket.{Ticket}
use Rattle.fbl_law.specs.Groups.{GroupRecord, member}
use Rattle.fbl_group.specs.declared.answers.TurnRecord.{TurnRecord}
use Rattle.fbl_group.specs.declared.answers.CrashRecord.{CrashRecord}
use Rattle.fbl_group.specs.declared.answers.RecoveryRecord.{RecoveryRecord}
use Rattle.fbl_group.specs.Records.{IsRecoveryRecord, TurnsLead}
use Rattle.fbl_turns.specs.Plans.{struck_at}
use Rattle.fbl_turns.specs.Runs.{Counts, Turn, nothing_done}
use Rattle.fbl_turns.specs.Runs.Turn.{commits, crashes, strikes, is_full, wants, is_late}

-- the receipt that worker w committed with this ticket, which led to this record, is recorded so
pub record IsReceiptRecord {S N : Type 0} (w : ℕ) (given : Ticket S N) (new : GroupRecord S N) (t : TurnRecord S N) : Type 0 where
  pub worker : t.worker ≡ w
  pub ticket : t.ticket ≡ given
  pub sent : t.sent ≡ length (member new given.to).log

-- these are the records of a turn: one of a turn that made a receipt, and none of one that was refused
abbrev pub IsRecordedAs : {S N : Type 0} → {next : Next S N} {plan : List Strike} {w : ℕ} {ticket : Ticket S N} {old new : GroupRecord S N} {before after : Counts} {ends : Bool}
    → Turn next plan w ticket old before new after ends → List (TurnRecord S N) → Type 0
IsRecordedAs {S} {N} {w = w} {ticket = ticket} (commits new commit none) records =
    (t : TurnRecord S N) × (records ≡ t ∷ []) × IsReceiptRecord w ticket new t × (t.crash ≡ None)
IsRecordedAs {S} {N} {w = w} {ticket = ticket} (crashes between new set recovered commit at crash) records =
    (t : TurnRecord S N) × (records ≡ t ∷ []) × IsReceiptRecord w ticket between t
    × ((r : RecoveryRecord) × (t.crash ≡ Some (record { set = set; recovery = Some r })) × IsRecoveryRecord crash r)
IsRecordedAs {S} {N} {w = w} {ticket = ticket} (strikes between new set commit at strike) records =
    (t : TurnRecord S N) × (records ≡ t ∷ []) × IsReceiptRecord w ticket between t × (t.crash ≡ Some (record { set = set; recovery = None }))
IsRecordedAs (is_full refused) records = records ≡ []
IsRecordedAs (wants none) records = records ≡ []
IsRecordedAs (is_late refused) records = records ≡ []

-- so many workers, under the plan, lead from start to this record and these counts turn by turn, and the turns that made a
-- receipt are recorded so, in order
pub data ReachedBy {S N : Type 0} (next : Next S N) (plan : List Strike) (workers : ℕ) (start : GroupRecord S N) : List (TurnRecord S N) → GroupRecord S N → Counts → Type 0 where
  begins : ReachedBy next plan workers start [] start (nothing_done workers)
  goes_on : (old new : GroupRecord S N) (before after : Counts) (w : ℕ) (ticket : Ticket S N) {ends : Bool} (list more : List (TurnRecord S N))
      → ReachedBy next plan workers start list old before → w < workers → (turn : Turn next plan w ticket old before new after ends) → IsRecordedAs turn more
      → ReachedBy next plan workers start (list ++ more) new after

-- ---- what is counted

-- how many receipts a recovery undid, if there was one
abbrev pub recovery_undid : Option RecoveryRecord → ℕ
recovery_undid None = 0
recovery_undid (Some r) = r.recovered.undone

-- how many receipts a crash undid, if there was one
abbrev pub crash_undid : Option CrashRecord → ℕ
crash_undid None = 0
crash_undid (Some c) = recovery_undid c.recovery

-- how many receipts a turn undid
abbrev pub undone_in : {S N : Type 0} → TurnRecord S N → ℕ
undone_in t = crash_undid t.crash

-- how many of the turns the worker made
abbrev pub made_by : {S N : Type 0} → ℕ → List (TurnRecord S N) → ℕ
made_by w list = count_by (λ t. t.worker == w) list

-- how many receipts the recoveries that the worker ran undid
abbrev pub undone_of : {S N : Type 0} → ℕ → List (TurnRecord S N) → ℕ
undone_of w list = sum_by (λ t. if t.worker == w then undone_in t else 0) list

-- the turns are of so many workers, the counts are those of the list, and each turn's crash, if any, is the one that the plan
-- has at the number of receipts that the turn came to
pub record TellsCounts {S N : Type 0} (plan : List Strike) (workers : ℕ) (start : GroupRecord S N) (list : List (TurnRecord S N)) (by_worker undone_by_worker : List ℕ) : Type 0 where
  pub by_workers : (place : ℕ) (t : TurnRecord S N) → slice_get list place ≡ Some t → t.worker < workers
  pub made : (w : ℕ) → w < workers → slice_index by_worker w ≡ made_by w list
  pub undone : (w : ℕ) → w < workers → slice_index undone_by_worker w ≡ undone_of w list
  pub all_made : sum by_worker ≡ length list
  pub all_undone : sum undone_by_worker ≡ sum_by undone_in list
  pub planned : (place : ℕ) (t : TurnRecord S N) → slice_get list place ≡ Some t → option_map (λ c. c.set) t.crash ≡ struck_at plan (start.receipts_ever + (place + 1))

-- such turns lead from start to this record, whichever workers made them and whichever were refused between them
abbrev pub RecordedTurnsLead : Type 0 → Type 0 → Type 0
RecordedTurnsLead S N =
    (next : Next S N) (plan : List Strike) (workers : ℕ) (start new : GroupRecord S N) (list : List (TurnRecord S N)) (counts : Counts)
    → ReachedBy next plan workers start list new counts → TurnsLead next start list new
