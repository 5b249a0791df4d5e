use Rattle.fbl_pictures.proofs.Common.{◌≡◌, ◌++◌, ◌∷◌, drop, path_shapes}
use Rattle.fbl_pictures.proofs.run.paths.push_path.Given as goal

abbrev pub invariant-loop-end : goal.invariant-loop-end
invariant-loop-end l = l.shapes.items ++ path_shapes l.window l.entries (l.start ∷ drop l.end-index l.others) ≡ l.fn.shapes.items ++ path_shapes l.window l.entries l.path
