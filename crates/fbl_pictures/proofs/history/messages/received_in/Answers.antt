use Rattle.fbl_pictures.proofs.Common.{◌≡◌, ◌||◌, ◌+◌, ◌∙◌, sym, ap, drop, arith, ◌∷◌, at_drop_more, is_message, has_standing_receipt, taken_by_column}
use Rattle.fbl_pictures.proofs.history.messages.received_in.Goals as goal

pub loop-column-preserved : goal.loop-column-preserved
loop-column-preserved c m =
    let columns = c.args.columns.now in
    let i = c.loop-column.column-index in
    let x = c.column-item.result in
    let rest = drop (i + 1) columns in
    let here : has_standing_receipt (drop i columns) m ≡ (is_message m (taken_by_column x) || has_standing_receipt rest m) =
    at_drop_more (λ l. has_standing_receipt l m) columns i x (omega arith) ∙ ap (λ y. has_standing_receipt (y ∷ rest) m) (sym c.column-item.is) in
    let was = c.loop-column.invariant m in
    elim c.match-message_taken.branch [
      | goal.in-Some+in_ok-insert w ↦ (let now = w.in_ok-insert.ensures.updates.0 m in grind (arith, here, was, now))
      | goal.in_default w ↦ grind (arith, here, was)
    ]
