-- The entries of a run's log: sends and receipts, from when on a determinant is held or stored, control messages, and restarts.
use Rattle.std.specs.Prelude.{ℕ, ◌≡◌, ◌==◌, Bool, List, Option, Some, None, option_and_then}
use Rattle.std.specs.List.{filter, filter_map}
use Rattle.fbl_trace.specs.declared.trace.Determinant.{Determinant}
use Rattle.fbl_trace.specs.declared.trace.Mark.{Mark}
use Rattle.fbl_trace.specs.declared.trace.Mark.TheVariants.{Receipt}
use Rattle.fbl_trace.specs.Events.{determinant_of, member_of, receipt_of}
use Rattle.fbl_runs.specs.declared.entry.Entry.{Entry}
use Rattle.fbl_runs.specs.declared.entry.Entry.TheVariants.{Event, Hold, LaterReceipt, Restart, Store, Tell, Told}
use Rattle.fbl_runs.specs.declared.entry.Restart as restart

-- the member in whose log it stands
abbrev pub entry_member : Entry → ℕ
entry_member (Event e) = member_of e
entry_member (Hold holder d) = holder
entry_member (Store member d) = member
entry_member (Tell m) = m.from
entry_member (Told m) = m.to
entry_member (LaterReceipt d life) = d.to
entry_member (Restart r) = r.member

-- the send or receipt, if it is one
abbrev pub mark_in : Entry → Option Mark
mark_in (Event e) = Some e
mark_in (LaterReceipt d life) = Some (receipt_of d)
mark_in e = None

-- the sends and receipts, in order
abbrev pub marks : List Entry → List Mark
marks entries = filter_map mark_in entries

-- what names the receipt, if it is one
abbrev pub receipt_in : Entry → Option Determinant
receipt_in e = option_and_then determinant_of (mark_in e)

-- what names the receipts, in order
abbrev pub receipts_in : List Entry → List Determinant
receipts_in entries = filter_map receipt_in entries

-- what it says is held or stored from here on, if it does
abbrev pub recorded_in : Entry → Option Determinant
recorded_in (Hold holder d) = Some d
recorded_in (Store member d) = Some d
recorded_in e = None

-- the restart, if it is one
abbrev pub restart_in : Entry → Option restart.Restart
restart_in (Restart r) = Some r
restart_in e = None

-- the life of its sender that it names, if it is a receipt: 0 where the receipt names none
abbrev pub named_life : Entry → ℕ
named_life (LaterReceipt d life) = life
named_life e = 0

-- it is a hold or a store
abbrev pub IsRecord : Entry → Type 0
IsRecord e = (d : Determinant) × (recorded_in e ≡ Some d)

-- a message comes in with it, or a control message, or its member is back
abbrev pub IsArrival : Entry → Type 0
IsArrival (Event (Receipt to rsn from ssn)) = Unit {0}
IsArrival (LaterReceipt d life) = Unit {0}
IsArrival (Told m) = Unit {0}
IsArrival (Restart r) = Unit {0}
IsArrival _ = ⊥

-- whether it stands in the member's log
abbrev pub is_at : ℕ → Entry → Bool
is_at member e = entry_member e == member

-- a member's log for each member
abbrev pub Logs : Type 0
Logs = ℕ → List Entry

-- the members' logs, from a list in which the entries of different members are mixed
abbrev pub log_of : List Entry → Logs
log_of entries member = filter (is_at member) entries
