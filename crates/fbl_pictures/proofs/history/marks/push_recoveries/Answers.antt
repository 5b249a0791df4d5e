use Rattle.fbl_pictures.proofs.Common.{[], ◌++◌, ◌∙◌, ◌∷◌, ap, arith, recovery_mark}
use Rattle.fbl_pictures.proofs.Steps.{mapped_on}
use Rattle.fbl_pictures.proofs.history.marks.push_recoveries.Goals as goal

pub loop-member-preserved : goal.loop-member-preserved
loop-member-preserved c =
    let mark = recovery_mark c.args.column in
    c.in_ok-push.ensures.items ∙ ap (λ g. c.loop-member.glyphs.items ++ g ∷ []) c.mark.ensures
    ∙ ap (λ s. s ++ mark c.loop-member-item.result ∷ []) c.loop-member.invariant
    ∙ mapped_on mark c.args.replays.now c.loop-member.member-index c.loop-member-item.result (omega arith) c.loop-member-item.is _
