use Rattle.fbl_play.proofs.Common.{refl, sym, ap, ◌∙◌, filter, not, length, is_recorded}
use Rattle.fbl_play.proofs.Losses.{lost_before}
use Rattle.fbl_play.proofs.commands.run_strike.Goals as goal

pub returns-in-Ok-clause-step : goal.returns-in-Ok-clause-step
returns-in-Ok-clause-step g c =
    let old = c.args.group.now in
    let struck = c.in-Ok.ensures.struck in
    let before = c.as_slice-before.ensures.value ∙ c.in_ok-lost_before.ensures.lost in
    let after = c.as_slice.ensures.value ∙ c.in_ok-after-in-Ok.ensures.lost in
    let others = before ∙ lost_before struck.1.0 c.lost_of.ensures.sound c.lost_of-in-Ok.ensures.sound ∙ ap (filter (λ d. not (is_recorded old d))) (sym after) in
    rw struck.0 (refl, struck.1, c.in_ok-receipts-in-Ok.ensures (is_recorded old) others ∙ ap (filter (is_recorded old)) after, ap length before)
