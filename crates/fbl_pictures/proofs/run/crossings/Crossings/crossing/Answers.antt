use Rattle.fbl_pictures.proofs.Common.{ℕ, Option, length, subst, sym, ◌∙◌, cut_of, IsBeyond}
use Rattle.fbl_pictures.proofs.Crossing.{crossing_at_end, crossing_before}
use Rattle.fbl_pictures.proofs.run.crossings.Crossings.crossing.Goals as goal

pub returns-in-Some : goal.returns-in-Some
returns-in-Some c =
    let entries = c.args.entries.now in
    let cut = cut_of c.args.cut.now in
    let n = c.args.number in
    let beyond = subst (λ (o : Option ℕ). IsBeyond entries cut (length entries) n o) (sym c.get.ensures ∙ c.in-Some.is) (c.requires.passed.beyond n c.requires.member) in
    rw c.min.ensures (crossing_before entries cut c.args.self.now.end n c.requires.passed.end c.requires.within c.in-Some.place beyond)

pub returns-in-None : goal.returns-in-None
returns-in-None c =
    let entries = c.args.entries.now in
    let cut = cut_of c.args.cut.now in
    let n = c.args.number in
    let beyond = subst (λ (o : Option ℕ). IsBeyond entries cut (length entries) n o) (sym c.get.ensures ∙ c.in-None.is) (c.requires.passed.beyond n c.requires.member) in
    crossing_at_end entries cut c.args.self.now.end n c.requires.passed.end c.requires.within beyond
