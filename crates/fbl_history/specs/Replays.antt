-- Members that replay the receipts of a trace, in its order.
use Rattle.std.specs.Prelude.{◌≡◌, ℕ, ◌<◌, List, length, take, slice_index_or}
use Rattle.fbl_trace.specs.declared.trace.Note.{Note}
use Rattle.fbl_trace.specs.Fold.{Next}
use Rattle.fbl_trace.specs.Rules.{receipts_of}
use Rattle.fbl_member.specs.Members.{MemberRecord, blank}
use Rattle.fbl_law.specs.Groups.{GroupRecord, marks, IsReplayed}

-- these members have replayed the receipts among the first events of the group's trace, so many as `place` says
pub record HaveReplayed (next : Next ℕ Note) (r : GroupRecord ℕ Note) (place : ℕ) (members : List (MemberRecord ℕ Note)) : Type 0 where
  pub size : length members ≡ r.config.members
  pub each : (m : ℕ) → m < r.config.members → IsReplayed next r.config.members r.config.starts r.trace m (slice_index_or members m (blank (next.initial 0 r.config.members)))
  pub received : (m : ℕ) → m < r.config.members → (slice_index_or members m (blank (next.initial 0 r.config.members))).received ≡ receipts_of (take place (marks r)) m
