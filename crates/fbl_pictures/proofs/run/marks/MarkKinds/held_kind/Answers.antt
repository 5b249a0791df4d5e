use Rattle.fbl_pictures.proofs.Common.{◌∙◌, ap, cut_of}
use Rattle.fbl_history.specs.declared.shape.GlyphKind.TheVariants.{Held}
use Rattle.fbl_runs.specs.Logs.{RunParts}
use Rattle.fbl_pictures.specs.RunShapes.{judged_kind}
use Rattle.fbl_pictures.proofs.run.marks.MarkKinds.held_kind.Goals as goal

pub returns : goal.returns
returns c =
    let run = c.args.self.now.pasts.now in
    let cut = cut_of c.args.self.now.clock.now in
    let d = c.args.determinant in
    let holders = c.recorded_at-recorded.result.holders in
    let stored = c.recorded_at-recorded.result.is_stored in
    let f = c.f-f.ensures ∙ ap (λ (r : RunParts). r.f) c.run.ensures.run in record {
      holders = holders;
      hold = c.recorded_at-recorded.ensures.holders;
      stored = stored;
      store = c.recorded_at-recorded.ensures.stored;
      is = λ i. Held d ((c.judged_kind.ensures ∙ (λ j. judged_kind (f j) c.args.self.now.lines.now.struck stored holders)) i) holders;
    }
