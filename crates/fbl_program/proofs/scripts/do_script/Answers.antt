use Rattle.fbl_program.proofs.Common.{◌≡◌, ◌∙◌, ◌&&◌, true, refl, Err, IsShown, Play, Show, outline}
use Rattle.fbl_program.proofs.Endings.{cut, plays_short, plays_well, tries_err}
use Rattle.fbl_program.proofs.scripts.do_script.Goals as goal

pub returns-in_err-play_script-in-Play : goal.returns-in_err-play_script-in-Play
returns-in_err-play_script-in-Play g c =
    let had = g.W.Write.contents c.args.writer.now in
    let has = g.W.Write.contents c.play_script.new.writer in
    let fault = c.in_err-play_script-in-Play.field-0.0 in
    rw c.in-Play.is (tries_err (Play c.in-Play.workers c.in-Play.strict) (outline c.args.script) had has fault _ c.from_residual.ensures.1
    (plays_short (λ teller. teller.has_refused) c.in-Play.workers c.in-Play.strict (outline c.args.script) had has c.new-teller.result c.play_script.new.observer fault (Err fault)
    refl c.in_err-play_script-in-Play.ensures))

pub returns-after-strict : goal.returns-after-strict
returns-after-strict g c =
    let had = g.W.Write.contents c.args.writer.now in
    let has = g.W.Write.contents c.play_script.new.writer in
    let strict = c.in-Play.strict in
    let teller = c.play_script.new.observer in
    let refused : c.if-strict.is_refused ≡ (strict && teller.has_refused) = elim c.if-strict.branch [
      | goal.then-strict w ↦ rw w.if-strict.true (w.is_refused-is)
      | goal.else-strict w ↦ rw w.if-strict.false (w.is_refused-is ∙ w.if-strict.false)
    ] in
    rw (c.in-Play.is, refused) (plays_well (λ teller. teller.has_refused) c.in-Play.workers strict (outline c.args.script) had has c.new-teller.result teller c.new-teller.ensures
    c.in_ok-play_script-in-Play.ensures)

pub returns-in_err-show-in-Show : goal.returns-in_err-show-in-Show
returns-in_err-show-in-Show g c =
    let s = outline c.args.script in
    let workers = c.in-Show.workers in
    let fault = c.in_err-show-in-Show.field-0.0 in
    rw c.in-Show.is (tries_err (Show workers) s _ _ fault _ c.from_residual-in_err-show-in-Show.ensures.1
    (cut (λ _. IsShown workers s) (λ is_well drawn. IsShown workers s drawn × (is_well ≡ true)) (λ _. true) (λ _ drawn shown. (shown, refl)) _ _ fault (Err fault)
    refl c.in_err-show-in-Show.ensures))

pub returns-in_ok-show-in-Show : goal.returns-in_ok-show-in-Show
returns-in_ok-show-in-Show g c = (let puts = c.in_ok-show-in-Show.ensures in rw c.in-Show.is (puts.0, (puts.1, refl), puts.2))

pub returns-in-Record : goal.returns-in-Record
returns-in-Record g c = rw c.in-Record.is c.record.ensures
