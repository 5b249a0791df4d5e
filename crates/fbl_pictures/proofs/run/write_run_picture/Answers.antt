use Rattle.fbl_pictures.proofs.Common.{puts_text}
use Rattle.fbl_pictures.specs.RunPictures.{IsRunPicture}
use Rattle.fbl_pictures.proofs.run.write_run_picture.Goals as goal

pub returns : goal.returns
returns g c =
    puts_text (λ _. IsRunPicture c.args.pasts.now c.args.sources.now c.args.around) _ (rw c.as_bytes.ensures.value c.in_ok-text.ensures) _ _ c.put.result
    c.put.ensures.whole c.put.ensures.front c.put.ensures.fault
