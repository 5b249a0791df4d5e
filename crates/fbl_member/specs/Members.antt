-- A member's volatile record: what it keeps in memory, and what a receipt does to it. State as a fold of receipts, the
-- sender's log and replay are those of message logging with piecewise determinism (Elnozahy, Alvisi, Wang and Johnson
-- 2002); that determinants are piggybacked on application messages is family-based logging (Alvisi, Hoppe and
-- Marzullo 1993).
use Rattle.std.specs.Prelude.{ℕ, ◌+◌, ◌==◌, ◌&&◌, nat_lt, List, [], ◌∷◌, map, Option, slice_index, slice_set, replicate}
use Rattle.std.specs.List.{filter, find}
use Rattle.std.specs.Option.{option_map}
use Rattle.fbl_trace.specs.declared.trace.Determinant.{Determinant}
use Rattle.fbl_trace.specs.declared.trace.Start.{Start}
use Rattle.fbl_trace.specs.declared.outcome.Outcome.{Outcome}
use Rattle.fbl_trace.specs.Fold.{Logged, Progress, Next, begun, stepped}
use Rattle.fbl_table.specs.declared.entry.Entry.{Entry}
use Rattle.fbl_table.specs.Tables.{learned, noted}

-- a message in flight: its ends, its number, its content, and the entries that it carries
pub record Message (N : Type 0) : Type 0 where
  pub from : ℕ
  pub to : ℕ
  pub ssn : ℕ
  pub note : N
  pub carried : List Entry

-- what a member keeps: its state, how many receipts it has had, the number of the last message from each of sixteen
-- members, its log of sends, and its table of determinants
pub record MemberRecord (S N : Type 0) : Type 0 where
  pub state : S
  pub received : ℕ
  pub last : List ℕ
  pub log : List (Logged N)
  pub table : List Entry

-- how far the member has come
abbrev pub progress_of : {S N : Type 0} → MemberRecord S N → Progress S N
progress_of m = record { state = m.state; received = m.received; log = m.log }

-- the record of a member that has come this far, with these last numbers and this table
abbrev pub record_of : {S N : Type 0} → Progress S N → List ℕ → List Entry → MemberRecord S N
record_of p last table = record { state = p.state; received = p.received; last = last; log = p.log; table = table }

-- the number of the last message received from a member, 0 if there was none
abbrev pub last_from : {S N : Type 0} → MemberRecord S N → ℕ → ℕ
last_from m from = slice_index m.last from

-- a member that has received nothing and sent its starts, by the state in which it begins
abbrev pub fresh : {S N : Type 0} → S → ℕ → List (Start N) → MemberRecord S N
fresh initial me starts = record_of (begun initial me starts) (replicate 16 0) []

-- a member that has received nothing and sent nothing, by that state
abbrev pub blank : {S N : Type 0} → S → MemberRecord S N
blank initial = record { state = initial; received = 0; last = replicate 16 0; log = []; table = [] }

-- a member after one more step of the fold: the message's number is its sender's last one, and the table stays
abbrev pub advanced_by : {S N : Type 0} → MemberRecord S N → ℕ → ℕ → Outcome S N → MemberRecord S N
advanced_by m from ssn outcome = record_of (stepped (progress_of m) outcome) (slice_set m.last from ssn) m.table

-- the determinant of the member's next receipt, if it is of this message
abbrev pub next_determinant : {S N : Type 0} → ℕ → MemberRecord S N → ℕ → ℕ → Determinant
next_determinant me m from ssn = record { from = from; ssn = ssn; to = me; rsn = m.received + 1 }

-- the table after the receipt of a message: what was carried is learned, then the receipt's own determinant is noted
abbrev pub table_after : {S N : Type 0} → ℕ → MemberRecord S N → Message N → List Entry
table_after me m v = noted me (learned me m.table v.carried) (next_determinant me m v.from v.ssn)

-- the member after the receipt of a message
abbrev pub received_by : {S N : Type 0} → ℕ → MemberRecord S N → Message N → Outcome S N → MemberRecord S N
received_by me m v outcome = record (advanced_by m v.from v.ssn outcome) { table = table_after me m v }

-- the member after the replay of a receipt, which leaves its table
abbrev pub replayed_by : {S N : Type 0} → Next S N → ℕ → ℕ → MemberRecord S N → Determinant → N → MemberRecord S N
replayed_by next me n m d note = advanced_by m d.from d.ssn (next.step me n m.state note)

-- the messages of a step's sends, numbered from one more than `before`, all with the same entries
abbrev pub messages_from : {N : Type 0} → ℕ → ℕ → List Entry → List (ℕ × N) → List (Message N)
messages_from me before carried [] = []
messages_from me before carried (s ∷ sends) =
    record { from = me; to = s.0; ssn = before + 1; note = s.1; carried = carried } ∷ messages_from me (before + 1) carried sends

-- the content of the message that the log has under this number, if there is one
abbrev pub logged_note : {N : Type 0} → List (Logged N) → ℕ → Option N
logged_note log ssn = option_map (λ l. l.note) (find (λ l. l.ssn == ssn) log)

-- the messages of the log to a member with numbers beyond this one, in order, each with its number and content
abbrev pub logged_beyond : {N : Type 0} → List (Logged N) → ℕ → ℕ → List (ℕ × N)
logged_beyond log to ssn = map (λ l. (l.ssn, l.note)) (filter (λ l. l.to == to && nat_lt ssn l.ssn) log)
