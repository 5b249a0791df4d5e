use Rattle.fbl_pictures.proofs.Common.{List, ℕ, ◌++◌, ◌∙◌, ◌∷◌, append-nil, arith, at_drop_all, common_steps, path_shapes, sym, Shape}
use Rattle.fbl_pictures.proofs.run.paths.push_path.Goals as goal

pub loop-end-preserved : goal.loop-end-preserved
loop-end-preserved c = grind (arith, common_steps)

pub returns-after-loop-end : goal.returns-after-loop-end
returns-after-loop-end c =
    let draw : List ℕ → List Shape = λ l. c.loop-end.shapes.items ++ path_shapes c.args.window.now c.args.entries.now (c.loop-end.start ∷ l) in
    sym (at_drop_all draw _ c.loop-end.end-index (omega arith) ∙ append-nil c.loop-end.shapes.items) ∙ c.loop-end.invariant
