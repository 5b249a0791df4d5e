use Rattle.fbl_pictures.proofs.Common.{puts_text}
use Rattle.fbl_pictures.specs.HistoryPictures.{IsHistoryPicture}
use Rattle.fbl_pictures.proofs.history.write_history_picture.Goals as goal

pub returns : goal.returns
returns g c =
    puts_text (λ _. IsHistoryPicture c.args.members c.args.f c.args.behaviour.now c.args.columns.now) _ (rw c.as_bytes.ensures.value c.in_ok-text.ensures) _ _ c.put.result
    c.put.ensures.whole c.put.ensures.front c.put.ensures.fault
