use Rattle.fbl_pictures.proofs.Common.{ℕ, ◌≡◌, ◌==◌, ◌++◌, drop, same_message, MessageName, back_before, receipt_arrow, sent_before, drawn}
use Rattle.std.specs.HashMap as hash_map
use Rattle.fbl_pictures.proofs.history.messages.push_arrows.Given as goal

abbrev pub invariant-loop-place : goal.invariant-loop-place
invariant-loop-place l =
    ((m : MessageName) → hash_map.get same_message l.places m ≡ sent_before l.columns l.place m)
    × ((q : ℕ) → hash_map.get ◌==◌ l.comebacks q ≡ back_before l.columns l.place q)
    × (l.shapes.items ++ drawn (receipt_arrow l.columns) l.place (drop l.place l.columns) ≡ l.initial.shapes.items ++ drawn (receipt_arrow l.columns) 0 l.columns)
