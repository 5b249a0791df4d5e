use Rattle.fbl_pictures.proofs.Common.{◌∙◌, IfOk-weaker}
use Rattle.std.specs.Prelude.{string_bytes}
use Rattle.fbl_pictures.proofs.Texts.{picture_of}
use Rattle.fbl_pictures.proofs.history.history_text.Goals as goal

pub returns : goal.returns
returns c =
    IfOk-weaker c.picture_text.result _ _ (λ text drawn.
    picture_of (string_bytes text) (c.as_str.ensures.value ∙ c.in_ok-heading.ensures) (c.as_slice.ensures.value ∙ c.in_ok-shapes.ensures)
    (c.as_slice-2.ensures.value ∙ c.in_ok-glyphs.ensures) drawn) c.picture_text.ensures
