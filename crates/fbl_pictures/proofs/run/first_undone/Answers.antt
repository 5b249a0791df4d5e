use Rattle.fbl_pictures.proofs.Common.{List, ap, ◌∙◌, slice_get}
use Rattle.fbl_judge.specs.declared.undone.UndoneReceipt.{UndoneReceipt}
use Rattle.fbl_pictures.proofs.Undones.{first_undone}
use Rattle.fbl_pictures.proofs.run.first_undone.Goals as goal

pub returns : goal.returns
returns c =
    first_undone c.args.pasts.now c.in_ok-undone.undone.items c.in_ok-undone.ensures c.copied.result
    (c.copied.ensures ∙ c.first.ensures.value ∙ ap (λ (said : List UndoneReceipt). slice_get said 0) c.as_slice.ensures.value)
