-- the events so far, with those of the lines that are left, are all
use Rattle.fbl_records.proofs.Common.{◌≡◌, [], drop, map}
use Rattle.fbl_records.specs.EventLines.{all_events}
use Rattle.fbl_records.proofs.event_lines.all_events.Given as goal

abbrev pub invariant-loop-line : goal.invariant-loop-line
invariant-loop-line l = all_events l.text.items (map (λ line. line.now) (drop l.line-index l.lines)) ≡ all_events [] (map (λ line. line.now) l.lines)
