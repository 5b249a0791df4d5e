use Rattle.fbl_runs.proofs.Common.{Cut, None, Some, [], ap, arith, get_or, length, refl, slice_get, slice_get_read, subst, ℕ, ◌++◌, ◌∷◌, ◌≡◌, ◌∙◌}
use Rattle.std.proofs.lemmas.Option.{slice_get-get_or}
use Rattle.fbl_runs.specs.declared.links.Link.{Link}
use Rattle.fbl_runs.specs.declared.clocks.Predecessors.{Predecessors}
use Rattle.fbl_runs.specs.Precedence.{AreBelow, IsAmong, IsJoined, kept_cut, reached_cut, predecessors_of}
use Rattle.fbl_runs.proofs.ClockLaws.{predecessors_below}
use Rattle.fbl_runs.proofs.ClockPasses.{HasSeen-next, some_position}
use Rattle.fbl_runs.proofs.Listing.{stands_at}
use Rattle.fbl_runs.proofs.clocks.Clocks.add.Goals as goal
use Rattle.fbl_runs.proofs.clocks.Clocks.add.Goals.{After-predecessors_of-predecessors}

abbrev no_link : Link
no_link = record { number = 0; life = 0; previous = None; stood = None; message = None; begins = None; undone = None }

-- the entry, and its link
here : (c : After-predecessors_of-predecessors) → slice_get c.args.entries.now c.args.place ≡ Some c.index-entries-place.result
here c = slice_get_read c.args.entries.now (length c.args.entries.now) c.args.place c.index-entries-place.result refl c.requires.within c.index-entries-place.is

linked : (c : After-predecessors_of-predecessors) → slice_get c.args.links.now c.args.place ≡ Some (get_or c.args.links.now c.args.place no_link)
linked c = slice_get-get_or c.args.links.now c.args.place no_link (let count = c.requires.links.count in let within = c.requires.within in omega (arith, count, within))

-- what leads to the entry comes before it
below : (c : After-predecessors_of-predecessors) → AreBelow c.args.place c.predecessors_of-predecessors.result
below c =
    let es = c.args.entries.now in
    let link = get_or c.args.links.now c.args.place no_link in
    let j = some_position es c.args.place c.requires.within in
    let at_j = stands_at es c.args.place j.0 c.index-entries-place.result j.1 (here c) in
    let is = c.requires.links.each c.args.place j.0 link j.1 (linked c) in
    let before = predecessors_below es c.args.links.now c.requires.links j.0 c.index-entries-place.result at_j link is c.requires.lawful.0 c.requires.lawful.1 c.args.place j.1 c.args.self.now.causality in
    (rw c.predecessors_of-predecessors.ensures before)

pub arrive-requires : goal.arrive-requires
arrive-requires c = (c.args.entries.now, c.args.place, c.requires.links, c.requires.seen, below (goal.at.arrive-requires c).After-predecessors_of-predecessors)

pub returns : goal.returns
returns c =
    let c2 = (goal.at.returns c).After-predecessors_of-predecessors in
    let causality = c.args.self.now.causality in
    let es = c.args.entries.now in
    let links = c.args.links.now in
    let entry = c.index-entries-place.result in
    let link = get_or links c.args.place no_link in
    let number = c.column_of-column.result in
    let kept = c.arrive.new.self.kept.items in
    let arrival = c.in_ok-arrival.arrival in
    let rest = c.in_ok-arrival.ensures.rest in
    let grown = c.in_ok-arrival.ensures.grown in
    let P : Predecessors → Type 0 = λ s. (count : ℕ) → IsAmong es s.before count
    → (cut : Cut) × IsJoined causality es links s cut × ((q : ℕ) → reached_cut (kept_cut kept arrival) number count q ≡ reached_cut cut number count q) in
    let clock : P (predecessors_of causality entry link) = subst P c.predecessors_of-predecessors.ensures
    (λ count among. c.in_ok-arrival.ensures.clock es c.args.place count c.requires.links c.requires.seen (below c2) among) in
    HasSeen-next causality es links c.requires.links c.args.place c.args.self.now _ c.requires.seen entry (here c2) link (linked c2) number c.column_of-column.ensures.value
    c.column_of-column.ensures.bound arrival grown.0 grown.1 c.in_ok-arrival.ensures.within clock rest.0
    (c.in_ok-push.ensures.items ∙ ap (λ v. v.items ++ number ∷ []) rest.1) (c.in_ok-push-2.ensures.items ∙ ap (λ v. v.items ++ arrival ∷ []) rest.2)
