use Rattle.fbl_pictures.proofs.Common.{◌≡◌, ◌==◌, ◌||◌, ◌+◌, ◌∙◌, ◌∷◌, sym, ap, drop, arith, at_drop_more, is_back}
use Rattle.fbl_pictures.proofs.history.messages.note_replays.Goals as goal

pub loop-replay-preserved : goal.loop-replay-preserved
loop-replay-preserved c q =
    let replays = c.args.replays.now in
    let i = c.loop-replay.replay-index in
    let x = c.replay-item.result in
    let rest = drop (i + 1) replays in
    let here : is_back q (drop i replays) ≡ (x.member == q || is_back q rest) =
    at_drop_more (λ l. is_back q l) replays i x (omega arith) ∙ ap (λ y. is_back q (y ∷ rest)) (sym c.replay-item.is) in
    grind (arith, here, c.loop-replay.invariant q, c.in_ok-insert.ensures.updates.0 q)
