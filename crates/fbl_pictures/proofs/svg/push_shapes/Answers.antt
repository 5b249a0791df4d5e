use Rattle.fbl_pictures.proofs.Common.{[], ◌∷◌, ◌++◌, ◌∙◌, ap, append-nil, arith, refl, sym}
use Rattle.std.proofs.Common.{length-append}
use Rattle.std.specs.Prelude.{string_bytes}
use Rattle.fbl_pictures.proofs.Texts.{one_more}
use Rattle.fbl_pictures.proofs.svg.push_shapes.Goals as goal

pub loop-shape-init : goal.loop-shape-init
loop-shape-init c = ([], refl, sym (append-nil (string_bytes c.args.text.now)))

pub loop-shape-preserved : goal.loop-shape-preserved
loop-shape-preserved c =
    let texts = c.loop-shape.invariant.0 in
    let piece = c.as_str.result.now in (
      texts ++ piece ∷ [],
      omega (arith, length-append texts (piece ∷ []), c.loop-shape.invariant.1),
      c.in_ok-push_str.ensures.bytes ∙ ap (λ t. t ++ piece) c.loop-shape.invariant.2 ∙ one_more (string_bytes c.args.text.now) texts piece,
    )

pub returns : goal.returns
returns c = (c.loop-shape.invariant.0, c.loop-shape.invariant.1 ∙ omega arith, c.loop-shape.invariant.2)
