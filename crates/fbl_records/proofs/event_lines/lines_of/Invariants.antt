-- the lines so far, and those from the one that was begun on, are all
use Rattle.fbl_records.proofs.Common.{◌≡◌, ◌++◌, ◌≤◌, map}
use Rattle.fbl_records.proofs.EventLines.{lines_at}
use Rattle.fbl_records.specs.EventLines.{lines_of}
use Rattle.fbl_records.proofs.event_lines.lines_of.Given as goal

abbrev pub invariant-loop-place : goal.invariant-loop-place
invariant-loop-place l = (l.start ≤ l.place) × (map (λ line. line.now) l.lines.items ++ lines_at l.input l.start l.place ≡ lines_of l.input)
