use Rattle.std.specs.List.{concat}
use Rattle.std.specs.Prelude.{string_bytes}
use Rattle.fbl_pictures.proofs.Common.{◌++◌, ◌∙◌, ap}
use Rattle.fbl_pictures.proofs.svg.picture_text.Goals as goal

pub returns : goal.returns
returns c = record {
  start = string_bytes c.in_ok-text.text;
  frame = c.as_str.result.now;
  lines = c.in_ok-push_shapes.ensures.0;
  line_each = c.in_ok-push_shapes.ensures.1;
  marks = c.in_ok-push_glyphs.ensures.0;
  mark_each = c.in_ok-push_glyphs.ensures.1;
  end = c.as_str-2.result.now;
  is =
      c.in_ok-push_str-3.ensures.bytes
      ∙ ap (λ t. t ++ c.as_str-2.result.now) (c.in_ok-push_glyphs.ensures.2
      ∙ ap (λ t. t ++ concat c.in_ok-push_glyphs.ensures.0) (c.in_ok-push_shapes.ensures.2
      ∙ ap (λ t. t ++ concat c.in_ok-push_shapes.ensures.0) (c.in_ok-push_str-2.ensures.bytes
      ∙ ap (λ t. t ++ c.as_str.result.now) c.in_ok-push_str.ensures.bytes)));
}
