use Rattle.std.specs.Prelude.{⊤}
use Rattle.fbl_play.proofs.Common.{Err, Ok, refl, ap, ◌∙◌, err_from_is_err_and, outline, over_input, next_of, IsScriptFault, IsScriptOf, PlaysUnobserved}
use Rattle.fbl_play.specs.Transcripts.{text}
use Rattle.fbl_play.specs.declared.observer.NoObserver.{NoObserver}
use Rattle.fbl_play.proofs.Moments.{unobserved}
use Rattle.fbl_play.proofs.engine.play.Goals as goal

pub returns-in_err-play_script : goal.returns-in_err-play_script
returns-in_err-play_script g c =
    let s = outline c.in_ok-script.script in
    let had = g.W.Write.contents c.args.writer.now in
    let has = g.W.Write.contents c.play_script.new.writer in
    let failed = err_from_is_err_and c.from_residual-in_err-play_script.result c.from_residual-in_err-play_script.ensures.1 in
    let plays = unobserved {O = NoObserver} (λ _ _ _ _ _. ⊤) (λ _ _ _ _ _ _. ⊤) (next_of s.behaviour) c.args.workers s.config s.commands (text had) (record {}) (text has) (record {})
    (Err c.in_err-play_script.field-0.0) c.in_err-play_script.ensures in
    over_input IsScriptOf IsScriptFault (λ s. PlaysUnobserved c.args.workers s (text had) (text has)) had has _ s (Err c.in_err-play_script.field-0.0) _ c.in_ok-script.ensures.script plays
    (failed.1 ∙ ap Err failed.2)

pub returns : goal.returns
returns g c =
    let s = outline c.in_ok-script.script in
    let had = g.W.Write.contents c.args.writer.now in
    let has = g.W.Write.contents c.play_script.new.writer in
    over_input IsScriptOf IsScriptFault (λ s. PlaysUnobserved c.args.workers s (text had) (text has)) had has _ s (Ok tt) _ c.in_ok-script.ensures.script c.in_ok-play_script.ensures.0 refl
