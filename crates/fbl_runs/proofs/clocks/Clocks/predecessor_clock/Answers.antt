use Rattle.fbl_runs.proofs.Common.{None, Option, Some, arith, get_or, length, refl, slice_get, slice_get_read, subst, sym, ℕ, ◌<◌, ◌≡◌}
use Rattle.std.proofs.Common.{rules, vec_len}
use Rattle.std.proofs.lemmas.Option.{slice_get-get_or}
use Rattle.fbl_runs.specs.declared.links.Link.{Link}
use Rattle.fbl_runs.specs.Clocks.{cut_of}
use Rattle.fbl_runs.specs.Precedence.{IsPredecessorClock}
use Rattle.fbl_runs.proofs.ClockPasses.{clock_at, number_within, source_room}
use Rattle.fbl_runs.proofs.clocks.Clocks.predecessor_clock.Goals as goal
use Rattle.fbl_runs.proofs.clocks.Clocks.predecessor_clock.Goals.{After-index}

-- the place was seen
below : (c : After-index) → c.in-Some.place < length c.args.self.now.columns.items
below c = (let r = c.requires in let less = r.4 c.in-Some.place c.in-Some.is in let count = r.3.columns in omega (arith, less, count))

within : (c : After-index) → c.in-Some.place < length c.args.links.now
within c = (let r = c.requires in let less = r.4 c.in-Some.place c.in-Some.is in let count = r.2.count in let all = r.3.within in omega (arith, less, count, all))

-- with what the entry is counted, and its link
counted : (c : After-index) → slice_get c.args.self.now.columns.items c.in-Some.place ≡ Some c.index.result.now
counted c = (let xs = c.args.self.now.columns.items in slice_get_read xs (length xs) c.in-Some.place c.index.result.now refl (below c) c.index.ensures)

abbrev no_link : Link
no_link = record { number = 0; life = 0; previous = None; stood = None; message = None; begins = None; undone = None }

linked : (c : After-index) → slice_get c.args.links.now c.in-Some.place ≡ Some (get_or c.args.links.now c.in-Some.place no_link)
linked c = slice_get-get_or c.args.links.now c.in-Some.place no_link (within c)

pub bounds-links-place : goal.bounds-links-place
bounds-links-place c = within (goal.at.bounds-links-place c).After-index

pub overflow_add-links : goal.overflow_add-links
overflow_add-links c =
    let c2 = (goal.at.overflow_add-links c).After-index in
    let r = c.requires in
    let tie : vec_len c.args.self.now.columns ≡ length c.args.self.now.columns.items = search rules in
    let less = below c2 in
    let all = within c2 in
    let count = r.2.count in
    let few = number_within r.0 c.in-Some.place (get_or c.args.links.now c.in-Some.place no_link) (omega (arith, all, count))
    (λ j stands. (r.2.each c.in-Some.place j (get_or c.args.links.now c.in-Some.place no_link) stands (linked c2)).number) in
    omega (arith, tie, less, few)

pub reached-requires : goal.reached-requires
reached-requires c =
    let r = c.requires in
    source_room c.args.self.now.causality r.0 c.args.links.now r.2 r.1 c.args.self.now r.3 c.in-Some.place c.index.result.now (counted (goal.at.reached-requires c).After-index)

pub returns-in-Some : goal.returns-in-Some
returns-in-Some c entries p are has below =
    let c2 = (goal.at.returns-in-Some c).After-index in
    subst (λ (o : Option ℕ). IsPredecessorClock c.args.self.now.causality entries c.args.links.now o (cut_of c.reached.result)) (sym c.in-Some.is)
    (λ i stands. clock_at c.args.self.now.causality entries c.args.links.now are p c.args.self.now has c.in-Some.place i c.index.result.now (get_or c.args.links.now c.in-Some.place no_link)
    c.reached.result stands (counted c2) (linked c2) c.reached.ensures)
