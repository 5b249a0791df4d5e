use Rattle.fbl_program.proofs.Common.{IsHistoryPicture, IsShown, behaviour_word, outline, puts_right}
use Rattle.fbl_program.proofs.scripts.show.Goals as goal

pub returns : goal.returns
returns g c =
    let s = outline c.args.script in
    let columns = c.in_ok-history.history in
    let drawn = rw (c.members-members.ensures.value, c.f-f.ensures, c.name-name.ensures, c.columns.ensures.columns) at c.write_history_picture.ensures in
    puts_right (λ _. IsHistoryPicture s.config.members s.config.f (behaviour_word s.behaviour) columns) (λ _. IsShown c.args.workers s)
    (λ _ text is. (columns, c.in_ok-history.ensures.0, is)) _ _ c.write_history_picture.result drawn
