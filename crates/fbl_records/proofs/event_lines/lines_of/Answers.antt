use Rattle.fbl_records.proofs.Common.{◌++◌, ◌∙◌, List, ℕ, ap, arith, map, sym}
use Rattle.std.proofs.lemmas.Bool.{ne_eqb}
use Rattle.std.specs.Borrow.{Bor}
use Rattle.fbl_records.proofs.EventLines.{ends_line, goes_on, one_more}
use Rattle.fbl_records.proofs.event_lines.lines_of.Goals as goal
use Rattle.fbl_records.proofs.event_lines.lines_of.Goals.{then-byte-eq10+in_ok-push, else-byte-eq10}

pub loop-place-preserved : goal.loop-place-preserved
loop-place-preserved c =
    let input = c.args.input.now in
    let start = c.loop-place.start in
    let place = c.loop-place.place in
    let low = c.loop-place.invariant.0 in
    let now : Bor (List ℕ) → List ℕ = λ l. l.now in
    elim c.if-byte-eq10.branch [
      | then-byte-eq10+in_ok-push w ↦ (
        rw w.start-is (omega arith),
        rw (w.start-is, w.lines-is, w.in_ok-push.ensures.items)
            (one_more c.loop-place.lines.items _ _ ∙ ap (λ ls. map now c.loop-place.lines.items ++ ls) (sym (ends_line input start place low c.loop-place-test.true w.if-byte-eq10.true)) ∙ c.loop-place.invariant.1),
      )
      | else-byte-eq10 w ↦ (
        rw w.start-is (omega (arith, low)),
        rw (w.start-is, w.lines-is)
            (ap (λ ls. map now c.loop-place.lines.items ++ ls) (sym (goes_on input start place low c.loop-place-test.true (ne_eqb _ _ w.if-byte-eq10.false))) ∙ c.loop-place.invariant.1),
      )
    ]
