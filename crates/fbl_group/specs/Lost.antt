-- Receipts that no table of some records has recorded.
use Rattle.std.specs.Prelude.{◌&&◌, not, Bool, false, List, Option, Some, None}
use Rattle.std.specs.FinSet as set
use Rattle.fbl_trace.specs.MemberSets.{Members}
use Rattle.fbl_trace.specs.declared.trace.Determinant.{Determinant}
use Rattle.fbl_trace.specs.declared.trace.Event.{Event}
use Rattle.fbl_trace.specs.Events.{determinant_of, mark_of}
use Rattle.fbl_member.specs.Members.{MemberRecord}
use Rattle.fbl_law.specs.Groups.{is_recorded_among}

-- whether there is a determinant of a member of the set, and none of these members' and checkpoints' tables has it
abbrev pub is_unheld : {S N : Type 0} → Members → List (MemberRecord S N) → List (MemberRecord S N) → Option Determinant → Bool
is_unheld s members checkpoints None = false
is_unheld s members checkpoints (Some d) = set.contains s d.to && not (is_recorded_among members checkpoints d)

-- whether the event is a receipt of a member of the set whose determinant none of these members' and checkpoints' tables has
abbrev pub is_lost_receipt_of : {S N : Type 0} → Members → List (MemberRecord S N) → List (MemberRecord S N) → Event N → Bool
is_lost_receipt_of s members checkpoints event = is_unheld s members checkpoints (determinant_of (mark_of event))
