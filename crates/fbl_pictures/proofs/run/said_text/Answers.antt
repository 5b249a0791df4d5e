use Rattle.fbl_pictures.proofs.Common.{ℕ, Option, ◌<◌, length, subst, sym, IfOk-weaker}
use Rattle.std.specs.Prelude.{IfSome, string_bytes}
use Rattle.fbl_pictures.proofs.Moments.{drawn_place}
use Rattle.fbl_pictures.specs.RunPictures.{IsUnsafePicture}
use Rattle.fbl_pictures.specs.RunShapes.{shown_entries}
use Rattle.fbl_pictures.proofs.run.said_text.Goals as goal

pub unsafe_text-requires-clause-around : goal.unsafe_text-requires-clause-around
unsafe_text-requires-clause-around c =
    let run = c.args.pasts.now in
    subst (λ (o : Option ℕ). IfSome o (λ place. place < length (shown_entries run))) (sym c.place_around-around.ensures)
    (drawn_place run c.requires.said.0 c.args.said.now c.requires.said.1 c.args.asked c.requires.asked)

pub returns : goal.returns
returns c = IfOk-weaker c.unsafe_text.result _ _ (λ text drawn. subst (λ (around : Option ℕ). IsUnsafePicture c.args.pasts.now c.args.sources.now around c.args.said.now (string_bytes text))
    c.place_around-around.ensures drawn) c.unsafe_text.ensures
