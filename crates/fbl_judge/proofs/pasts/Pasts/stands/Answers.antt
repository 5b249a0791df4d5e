use Rattle.fbl_judge.proofs.Common.{Entry, List, Option, Position, Stands, ap, arith, at, log_of, nat_tests, sym, subst, ℕ, ◌<◌, ◌≡◌, ◌≤◌, ◌↔◌, ◌∙◌, entry_member}
use Rattle.fbl_runs.specs.Clocks.{StandsAt, cut_of, seen}
use Rattle.fbl_runs.specs.Links.{IsPlaceOf}
use Rattle.fbl_runs.specs.Logs.{RunParts}
use Rattle.fbl_runs.proofs.LeadsLaws.{here_stands, one_position}
use Rattle.fbl_judge.proofs.StandLaws.{IsUndoerOf, stands_never, stands_until}
use Rattle.fbl_judge.proofs.Places.{place_within, read_at}
use Rattle.fbl_judge.proofs.pasts.Pasts.stands.Goals as goal

pub number-requires : goal.number-requires
number-requires c =
    let es = c.args.self.now.entries in
    let same : c.self.inside.index ≡ es = c.self.invariant.index ∙ ap (λ (run : RunParts). run.entries) c.self.view_is in
    let here = read_at es c.entries.result.now c.args.place c.index-entries-place.result c.entries.ensures.entries c.requires c.index-entries-place.is in
    let e = c.index-entries-place.result in
    let j = at (entry_member e) (seen es c.args.place (entry_member e)) in
    let link = c.link-link.ensures j (subst (λ (es' : List Entry). StandsAt es' c.args.place j) (sym same) (here_stands es c.args.place e here)) in
    let undone = subst (λ (o : Option ℕ). IsPlaceOf c.self.inside.index (IsUndoerOf c.self.inside.index j) o) c.in-Some.is link.undone in
    place_within es c.in-Some.restart undone.0 (subst (λ (es' : List Entry). StandsAt es' c.in-Some.restart undone.0) same undone.1)

pub returns-in-None : goal.returns-in-None
returns-in-None c j stands =
    let es = c.args.self.now.entries in
    let same : c.self.inside.index ≡ es = c.self.invariant.index ∙ ap (λ (run : RunParts). run.entries) c.self.view_is in
    let here = read_at es c.entries.result.now c.args.place c.index-entries-place.result c.entries.ensures.entries c.requires c.index-entries-place.is in
    let e = c.index-entries-place.result in
    let member : c.member.result ≡ j.member = c.member.ensures ∙ ap (λ (x : Position). x.member) (one_position es c.args.place (at (entry_member e) (seen es c.args.place (entry_member e))) j (here_stands es c.args.place e here) stands) in
    let link = c.link-link.ensures j (subst (λ (es' : List Entry). StandsAt es' c.args.place j) (sym same) stands) in
    let none = subst (λ (o : Option ℕ). IsPlaceOf c.self.inside.index (IsUndoerOf c.self.inside.index j) o) c.in-None.is link.undone in
    let count : c.count-count.result ≡ cut_of c.args.moment.now j.member = c.count-count.ensures ∙ ap (cut_of c.args.moment.now) member in
    let number = link.number in
    let is = subst (λ (es' : List Entry). (j.number < cut_of c.args.moment.now j.member) ↔ Stands (log_of es') (cut_of c.args.moment.now) j) same (stands_never c.self.inside.index j (cut_of c.args.moment.now) none) in (
      λ h. is.0 (let less : c.link-link.result.number < c.count-count.result = grind (arith, nat_tests, h) in omega (arith, less, count, number)),
      λ s. (let come = is.1 s in let less : c.link-link.result.number < c.count-count.result = omega (arith, come, count, number) in grind (arith, nat_tests, less)),
    )

pub returns-then-link-count : goal.returns-then-link-count
returns-then-link-count c j stands =
    let es = c.args.self.now.entries in
    let same : c.self.inside.index ≡ es = c.self.invariant.index ∙ ap (λ (run : RunParts). run.entries) c.self.view_is in
    let here = read_at es c.entries.result.now c.args.place c.index-entries-place.result c.entries.ensures.entries c.requires c.index-entries-place.is in
    let e = c.index-entries-place.result in
    let member : c.member.result ≡ j.member = c.member.ensures ∙ ap (λ (x : Position). x.member) (one_position es c.args.place (at (entry_member e) (seen es c.args.place (entry_member e))) j (here_stands es c.args.place e here) stands) in
    let link = c.link-link.ensures j (subst (λ (es' : List Entry). StandsAt es' c.args.place j) (sym same) stands) in
    let some = subst (λ (o : Option ℕ). IsPlaceOf c.self.inside.index (IsUndoerOf c.self.inside.index j) o) c.in-Some.is link.undone in
    let count : c.count-count.result ≡ cut_of c.args.moment.now j.member = c.count-count.ensures ∙ ap (cut_of c.args.moment.now) member in
    let number = link.number in
    let less : c.link-link.result.number < c.count-count.result = grind (arith, nat_tests, c.if-link-count.true) in
    let until = stands_until c.self.inside.index j (cut_of c.args.moment.now) c.in-Some.restart c.number.result some (λ i at_i. c.number.ensures i (subst (λ (es' : List Entry). StandsAt es' c.in-Some.restart i) same at_i)) in
    let is = subst (λ (es' : List Entry). ((j.number < cut_of c.args.moment.now j.member) × (cut_of c.args.moment.now j.member ≤ c.number.result)) ↔ Stands (log_of es') (cut_of c.args.moment.now) j) same until in (
      λ h. is.0 (omega (arith, less, count, number), (let le : c.count-count.result ≤ c.number.result = grind (arith, nat_tests, h) in omega (arith, le, count))),
      λ s. (let both = is.1 s in let upto = both.1 in let le : c.count-count.result ≤ c.number.result = omega (arith, upto, count) in grind (arith, nat_tests, le)),
    )

pub returns-else-link-count : goal.returns-else-link-count
returns-else-link-count c j stands =
    let es = c.args.self.now.entries in
    let same : c.self.inside.index ≡ es = c.self.invariant.index ∙ ap (λ (run : RunParts). run.entries) c.self.view_is in
    let here = read_at es c.entries.result.now c.args.place c.index-entries-place.result c.entries.ensures.entries c.requires c.index-entries-place.is in
    let e = c.index-entries-place.result in
    let member : c.member.result ≡ j.member = c.member.ensures ∙ ap (λ (x : Position). x.member) (one_position es c.args.place (at (entry_member e) (seen es c.args.place (entry_member e))) j (here_stands es c.args.place e here) stands) in
    let link = c.link-link.ensures j (subst (λ (es' : List Entry). StandsAt es' c.args.place j) (sym same) stands) in
    let count : c.count-count.result ≡ cut_of c.args.moment.now j.member = c.count-count.ensures ∙ ap (cut_of c.args.moment.now) member in
    let number = link.number in
    let none : c.count-count.result ≤ c.link-link.result.number = grind (arith, nat_tests, c.if-link-count.false) in (
      λ h. absurd (let less : c.link-link.result.number < c.count-count.result = grind (arith, nat_tests, h) in omega (arith, less, none)),
      λ s. absurd (let come = s.0 in omega (arith, come, none, count, number)),
    )
