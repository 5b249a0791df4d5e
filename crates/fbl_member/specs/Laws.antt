-- What holds of every member's record, and how it follows the fold of its receipts, for the function that states it.
use Rattle.std.specs.Prelude.{◌≡◌, ℕ, ◌≤◌, length, map, List, []}
use Rattle.fbl_trace.specs.Fold.{Logged, numbered, Next, advanced, after_notes}
use Rattle.fbl_member.specs.Members.{MemberRecord, Message, progress_of, fresh, received_by, replayed_by}
use Rattle.fbl_trace.specs.declared.trace.Determinant.{Determinant}
use Rattle.fbl_trace.specs.declared.trace.Start.{Start}

-- a logged message without its number: where it went and its content
abbrev pub without_number : {N : Type 0} → Logged N → ℕ × N
without_number l = (l.to, l.note)

-- there are sixteen last numbers, at most 8192 receipts and as many sends, and the sends are numbered 1, 2, and so on
pub record IsKept {S N : Type 0} (m : MemberRecord S N) : Type 0 where
  pub lasts : length m.last ≡ 16
  pub few_receipts : m.received ≤ 8192
  pub few_sends : length m.log ≤ 8192
  pub numbers : m.log ≡ numbered 0 (map without_number m.log)

-- a member that has received nothing is at the fold of no notes
abbrev pub FreshIsBegun : Type 0 → Type 0 → Type 0
FreshIsBegun S N =
    (next : Next S N) (me n : ℕ) (starts : List (Start N))
    → progress_of (fresh (next.initial me n) me starts) ≡ after_notes next me n starts []

-- the receipt of a message is one step of the fold, by the message's note
abbrev pub ReceivedIsAdvanced : Type 0 → Type 0 → Type 0
ReceivedIsAdvanced S N =
    (next : Next S N) (me n : ℕ) (m : MemberRecord S N) (v : Message N)
    → progress_of (received_by me m v (next.step me n m.state v.note)) ≡ advanced next me n (progress_of m) v.note

-- the replay of a receipt is one step of the fold, by the note of its message
abbrev pub ReplayedIsAdvanced : Type 0 → Type 0 → Type 0
ReplayedIsAdvanced S N =
    (next : Next S N) (me n : ℕ) (m : MemberRecord S N) (d : Determinant) (note : N)
    → progress_of (replayed_by next me n m d note) ≡ advanced next me n (progress_of m) note
