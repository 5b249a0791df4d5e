use Rattle.fbl_pictures.proofs.Common.{ℕ, List, Entry, ◌∙◌, Option, ap, subst, sym, cut_of, AreCrossings}
use Rattle.fbl_runs.specs.Logs.{RunParts}
use Rattle.fbl_pictures.specs.RunShapes.{IsMomentLine}
use Rattle.fbl_pictures.proofs.run.finding.Finding.moment_line.Goals as goal

pub returns-in-Some : goal.returns-in-Some
returns-in-Some c =
    let run = c.args.pasts.now in
    let cut = cut_of c.args.self.now.moment in
    let columns = c.moment_columns.result in
    let members = c.members.ensures ∙ ap (λ (r : RunParts). r.members) c.run.ensures.run in
    let are = subst (λ (n : ℕ). AreCrossings n run.entries cut columns) members
    (subst (λ (es : List Entry). AreCrossings c.members.result es cut columns) c.entries.ensures.entries c.moment_columns.ensures) in
    subst (λ (o : Option ℕ). IsMomentLine run o cut columns) (sym c.in-Some.is) are

pub returns-in-None : goal.returns-in-None
returns-in-None c = subst (λ (o : Option ℕ). IsMomentLine c.args.pasts.now o (cut_of c.args.self.now.moment) c.none.result) (sym c.in-None.is) c.none.ensures
