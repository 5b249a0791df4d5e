use Rattle.fbl_pictures.proofs.Common.{◌∙◌, ap, cut_of, entry_member, not, refl, subst}
use Rattle.std.specs.Prelude.{Bool}
use Rattle.fbl_pictures.specs.Columns.{has_come}
use Rattle.fbl_pictures.specs.RunShapes.{IsKind, is_undone}
use Rattle.fbl_pictures.proofs.run.marks.MarkKinds.push_glyph.Goals as goal

pub returns : goal.returns
returns c =
    let self = c.args.self.now in
    let lines = self.lines.now in
    let e = c.args.entry.now in
    let is_kind : Bool → Bool → Type 0 = λ come undone. IsKind self.pasts.now (cut_of self.clock.now) lines.struck come undone e c.entry_kind-kind.result in
    let come = c.has_come-has_come.ensures ∙ ap (has_come lines.moment c.args.place) c.member-member.ensures in
    let undone = c.is_undone-undone.ensures ∙ ap (is_undone self.standing.now lines.moment c.args.place) c.member-member.ensures in
    let kind = subst (is_kind (has_come lines.moment c.args.place (entry_member e))) undone (subst (λ (come : Bool). is_kind come c.is_undone-undone.result) come c.entry_kind-kind.ensures) in (
      record { column = c.args.column; member = c.member-member.result; kind = c.entry_kind-kind.result; to_come = not c.has_come-has_come.result },
      record { stands = refl; member = c.member-member.ensures; kind = kind; to_come = ap not come },
      c.in_ok-push.ensures.items,
    )
