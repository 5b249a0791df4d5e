use Rattle.fbl_pictures.proofs.Common.{List, Entry, ◌∙◌, IfOk-weaker, ap, cut_of, length, subst}
use Rattle.std.specs.Prelude.{Bool, slice_range, string_bytes}
use Rattle.fbl_pictures.proofs.Findings.{drawn_in}
use Rattle.fbl_pictures.proofs.Texts.{picture_of}
use Rattle.fbl_pictures.specs.Windows.{window_around}
use Rattle.fbl_pictures.specs.RunShapes.{AreGlyphs, AreShapesOf, shown_entries}
use Rattle.fbl_pictures.proofs.run.finding_text.Goals as goal

pub returns : goal.returns
returns c =
    let run = c.args.pasts.now in
    let cut = cut_of c.args.finding.now.moment in
    let lines = c.lines-lines.result in
    let standing = c.in_ok-standing.standing.items in
    let w = c.around-window.result in
    let entries = c.shown_entries-entries.ensures in
    let window = c.around-window.ensures.value ∙ ap (λ n. window_around n c.args.around) (ap length entries) in
    let shapes = c.in_ok-shapes.shapes.items in
    let glyphs = c.in_ok-glyphs.glyphs.items in
    let under = subst (λ (s : List Bool). AreShapesOf run w c.args.finding.now s lines shapes) c.as_slice-2.ensures.value c.in_ok-shapes.ensures in
    let over = subst (λ (s : List Bool). AreGlyphs run cut s lines w.first 0 (slice_range (shown_entries run) w.first w.end) glyphs) c.as_slice.ensures.value
    (subst (λ (es : List Entry). AreGlyphs run cut c.as_slice.result.now lines w.first 0 (slice_range es w.first w.end) glyphs) entries c.in_ok-glyphs.ensures) in
    IfOk-weaker c.picture_text.result _ _ (λ text drawn. drawn_in run c.args.around c.args.finding.now c.args.words.now (string_bytes text) w _ _ window
    (record { standing = standing; stand = c.in_ok-standing.ensures; lines = lines; are = c.lines-lines.ensures; under = under; over = over })
    (picture_of (string_bytes text) (c.as_str.ensures.value ∙ c.in_ok-heading.ensures) c.as_slice-3.ensures.value c.as_slice-4.ensures.value drawn)) c.picture_text.ensures
