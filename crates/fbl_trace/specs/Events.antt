-- The events of a trace. A determinant names a receipt, by the message's source and send sequence number and by the
-- destination and its receive sequence number (Alvisi and Marzullo 1998).
use Rattle.std.specs.Prelude.{ℕ, ◌+◌, ◌*◌, ◌^◌, ◌%◌, Bool, false, ◌==◌, ◌&&◌, Option, Some, None, List, slice_get, ◌≡◌}
use Rattle.std.specs.List.{filter_map}
use Rattle.fbl_trace.specs.declared.trace.Event.{Event}
use Rattle.fbl_trace.specs.declared.trace.Event.TheVariants as event
use Rattle.fbl_trace.specs.declared.trace.Determinant.{Determinant}
use Rattle.fbl_trace.specs.declared.trace.MessageName.{MessageName}
use Rattle.fbl_trace.specs.declared.trace.Mark.{Mark}
use Rattle.fbl_trace.specs.declared.trace.Mark.TheVariants.{Send, Receipt}

-- an event without its note
abbrev pub mark_of : {N : Type 0} → Event N → Mark
mark_of (event.Send from ssn to note) = Send from ssn to
mark_of (event.Receipt to rsn from ssn) = Receipt to rsn from ssn

-- the member at which an event happens
abbrev pub member_of : Mark → ℕ
member_of (Send from ssn to) = from
member_of (Receipt to rsn from ssn) = to

-- the sender of an event's message
abbrev pub source_of : Mark → ℕ
source_of (Send from ssn to) = from
source_of (Receipt to rsn from ssn) = from

-- the receiver of an event's message
abbrev pub destination_of : Mark → ℕ
destination_of (Send from ssn to) = to
destination_of (Receipt to rsn from ssn) = to

-- which of its member's sends, or receipts, an event says that it is
abbrev pub number_of : Mark → ℕ
number_of (Send from ssn to) = ssn
number_of (Receipt to rsn from ssn) = rsn

-- what names the event, if it is a receipt
abbrev pub determinant_of : Mark → Option Determinant
determinant_of (Send from ssn to) = None
determinant_of (Receipt to rsn from ssn) = Some (record { from = from; ssn = ssn; to = to; rsn = rsn })

-- the determinants of the receipts of a trace, in order
abbrev pub receipts : List Mark → List Determinant
receipts trace = filter_map determinant_of trace

-- the receipt that a determinant names
abbrev pub receipt_of : Determinant → Mark
receipt_of d = Receipt d.to d.rsn d.from d.ssn

-- whether two determinants are equal
abbrev pub same_determinant : Determinant → Determinant → Bool
same_determinant a b = (a.from == b.from) && ((a.to == b.to) && ((a.ssn == b.ssn) && (a.rsn == b.rsn)))

-- a determinant as one number of 64 bits: what its hash is made of
abbrev pub hashed : Determinant → ℕ
hashed d = (d.ssn + 2 ^ 32 * d.rsn + 2 ^ 48 * (d.from + 2 ^ 8 * d.to)) % 2 ^ 64

-- whether two messages are the same
abbrev pub same_message : MessageName → MessageName → Bool
same_message a b = a.from == b.from && a.ssn == b.ssn

-- whether there is a message here, and it is this one
abbrev pub is_message : MessageName → Option MessageName → Bool
is_message message None = false
is_message message (Some other) = same_message other message

-- the send whose message the event takes, if it is a receipt
abbrev pub send_of : Mark → Option Mark
send_of (Send from ssn to) = None
send_of (Receipt to rsn from ssn) = Some (Send from ssn to)

-- the trace has the event e at place i
abbrev pub At : List Mark → ℕ → Mark → Type 0
At trace i e = slice_get trace i ≡ Some e
