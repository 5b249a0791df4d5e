-- the marks so far, and those of the entries to come, are the marks of all
use Rattle.fbl_pictures.proofs.Common.{List, ◌++◌, Glyph, cut_of, drop}
use Rattle.fbl_pictures.specs.RunShapes.{AreGlyphs}
use Rattle.fbl_pictures.proofs.run.marks.MarkKinds.glyphs.Given as goal

abbrev pub invariant-loop-column : goal.invariant-loop-column
invariant-loop-column l =
    (rest : List Glyph) → AreGlyphs l.self.pasts.now (cut_of l.self.clock.now) l.self.standing.now l.self.lines.now l.first l.column (drop l.column l.entries) rest
    → AreGlyphs l.self.pasts.now (cut_of l.self.clock.now) l.self.standing.now l.self.lines.now l.first 0 l.entries (l.glyphs.items ++ rest)
