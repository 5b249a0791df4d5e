use Rattle.fbl_pictures.proofs.Common.{List, Entry, [], ◌∷◌, ◌≡◌, ◌+◌, append-nil, append_assoc, arith, at_drop_all, at_drop_more, cut_of, drop, get_or, refl, subst, sym}
use Rattle.fbl_pictures.specs.RunShapes.{AreGlyphs, IsGlyphOf}
use Rattle.fbl_pictures.proofs.run.marks.MarkKinds.glyphs.Goals as goal

pub loop-column-preserved : goal.loop-column-preserved
loop-column-preserved c rest are =
    let run = c.args.self.now.pasts.now in
    let cut = cut_of c.args.self.now.clock.now in
    let standing = c.args.self.now.standing.now in
    let lines = c.args.self.now.lines.now in
    let entries = c.args.entries.now in
    let n = c.loop-column.column in
    let first = c.args.first in
    let pushed = c.in_ok-push_glyph.ensures in
    let e = get_or entries n c.index-entries-column.result in
    let mark = pushed.0 in
    let more : drop n entries ≡ e ∷ drop (n + 1) entries = at_drop_more (λ (es : List Entry). es) entries n c.index-entries-column.result (omega arith) in
    let is = subst (λ (x : Entry). IsGlyphOf run cut standing lines (first + n) n x mark) c.index-entries-column.is pushed.1 in
    let here = subst (λ (es : List Entry). AreGlyphs run cut standing lines first n es (mark ∷ rest)) (sym more) (mark, is, rest, are, refl) in
    rw (pushed.2, append_assoc) (c.loop-column.invariant (mark ∷ rest) here)

pub returns : goal.returns
returns c =
    let run = c.args.self.now.pasts.now in
    let cut = cut_of c.args.self.now.clock.now in
    let standing = c.args.self.now.standing.now in
    let lines = c.args.self.now.lines.now in
    let n = c.loop-column.column in
    let first = c.args.first in
    let none : drop n c.args.entries.now ≡ [] = at_drop_all (λ (es : List Entry). es) c.args.entries.now n (omega arith) in
    let end = subst (λ (es : List Entry). AreGlyphs run cut standing lines first n es []) (sym none) refl in
    let all = c.loop-column.invariant [] end in
    (rw append-nil at all)
