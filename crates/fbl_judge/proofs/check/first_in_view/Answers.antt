use Rattle.fbl_judge.proofs.Common.{slice_get_within, sym, ◌≡◌, ◌∙◌, Position, StandsAt}
use Rattle.fbl_runs.specs.Clocks.{cut_of}
use Rattle.fbl_judge.proofs.DependLaws.{receipt_at}
use Rattle.fbl_judge.proofs.Places.{member_is, read_at}
use Rattle.fbl_judge.proofs.StrikeLaws.{none_if_lost_nowhere, none_if_nowhere, struck_in_all}
use Rattle.fbl_judge.proofs.check.first_in_view.Goals as goal
use Rattle.fbl_judge.proofs.check.first_in_view.Goals.{After-member-receiver}

-- the receipt is of the receiver
own : (c : After-member-receiver) (i : Position) → StandsAt c.args.pasts.now.entries c.args.place i → i.member ≡ c.member-receiver.result
own c i stands =
    let es = c.args.pasts.now.entries in
    let within = slice_get_within es c.args.place c.requires.receipt.0 c.requires.receipt.1 in
    let here = read_at es c.entries.result.now c.args.place c.index-entries-place.result c.entries.ensures.entries within c.index-entries-place.is in
    sym (member_is es c.args.place c.index-entries-place.result i here stands) ∙ sym c.member-receiver.ensures

pub returns-in_err-moment : goal.returns-in_err-moment
returns-in_err-moment c i stands =
    let run = c.args.pasts.now in
    let d = c.args.determinant.now in
    rw c.from_residual.ensures (none_if_nowhere run c.requires.run.lawful c.requires.run.strike i d (receipt_at run.entries c.args.place d i c.requires.receipt stands)
    (cut_of c.args.view.now.base) c.member-receiver.result (own (goal.at.returns-in_err-moment c).After-member-receiver i stands) (c.in_err-moment.ensures i stands))

pub returns-in_err-least : goal.returns-in_err-least
returns-in_err-least c i stands =
    let run = c.args.pasts.now in
    let d = c.args.determinant.now in
    rw c.from_residual-in_err-least.ensures (none_if_lost_nowhere run c.requires.run.lawful c.requires.run.strike i d (receipt_at run.entries c.args.place d i c.requires.receipt stands)
    (cut_of c.args.view.now.base) c.member-receiver.result (own (goal.at.returns-in_err-least c).After-member-receiver i stands) (cut_of c.in_ok-moment.moment) (c.in_ok-moment.ensures i stands) c.in_err-least.ensures)

pub first_struck-requires-clause-least : goal.first_struck-requires-clause-least
first_struck-requires-clause-least c i stands =
    let run = c.args.pasts.now in
    let d = c.args.determinant.now in
    struck_in_all run c.requires.run.lawful c.requires.run.strike i d (receipt_at run.entries c.args.place d i c.requires.receipt stands)
    (cut_of c.args.view.now.base) c.member-receiver.result (own (goal.at.first_struck-requires-clause-least c).After-member-receiver i stands) (cut_of c.in_ok-moment.moment) (c.in_ok-moment.ensures i stands)
    c.in_ok-least.least c.in_ok-least.ensures
