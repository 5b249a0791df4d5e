use Rattle.fbl_judge.proofs.Common.{Entry, List, arith, at, entry_member, false≢true, slice_get_within, length, log_of, subst, sym, ◌<◌, ◌∙◌}
use Rattle.fbl_runs.specs.Clocks.{StandsAt, cut_of, seen}
use Rattle.fbl_runs.proofs.LeadsLaws.{here_stands}
use Rattle.fbl_runs.proofs.ClockLaws.{last_there}
use Rattle.fbl_judge.proofs.DependLaws.{least_if_within, none_if_more, none_in_life, receipt_at, view_life}
use Rattle.fbl_judge.proofs.Places.{place_within}
use Rattle.fbl_judge.proofs.check.least_dependent.Goals as goal

pub first_in_life-requires-clause-receipt : goal.first_in_life-requires-clause-receipt
first_in_life-requires-clause-receipt c = slice_get_within c.args.pasts.now.entries c.args.place c.requires.receipt.1.0 c.requires.receipt.1.1

pub first_in_life-requires-clause-life : goal.first_in_life-requires-clause-life
first_in_life-requires-clause-life c =
    let run = c.args.pasts.now in
    view_life run.members run.entries c.requires.run.lawful c.args.view.now c.requires.view c.args.member c.number-at.result (let v = c.number-at.ensures.value in let b = c.number-at.ensures.bound in omega (arith, v, b)) c.number-at.ensures.value

pub returns-in_err-first : goal.returns-in_err-first
returns-in_err-first c i stands =
    let run = c.args.pasts.now in
    rw c.from_residual.ensures (none_in_life run.members run.entries c.requires.run.lawful c.args.view.now c.requires.view c.args.member c.number-at.result (let v = c.number-at.ensures.value in let b = c.number-at.ensures.bound in omega (arith, v, b)) c.number-at.ensures.value i
    (c.in_err-first.ensures i stands))

pub place-requires : goal.place-requires
place-requires c =
    let es = c.args.pasts.now.entries in
    let here = c.requires.receipt.1 in
    let i = at (entry_member here.0) (seen es c.args.place (entry_member here.0)) in
    let first = c.in_ok-first.ensures i (here_stands es c.args.place here.0 here.1) in
    let there = last_there first.depends in
    let within = slice_get_within (log_of es c.args.member) c.in_ok-first.first there.0 there.1 in
    subst (λ (es : List Entry). c.in_ok-first.first < length (log_of es c.args.member)) (sym c.index.ensures) within

pub moment_at-reached-requires : goal.moment_at-reached-requires
moment_at-reached-requires c =
    place_within c.args.pasts.now.entries c.place.result (at c.args.member c.in_ok-first.first) (subst (λ (es : List Entry). StandsAt es c.place.result (at c.args.member c.in_ok-first.first)) c.index.ensures c.place.ensures)

pub returns-then-is_within : goal.returns-then-is_within
returns-then-is_within c i stands =
    let run = c.args.pasts.now in
    let here = receipt_at run.entries c.args.place c.requires.receipt.0 i c.requires.receipt.1 stands in
    let place = subst (λ (es : List Entry). StandsAt es c.place.result (at c.args.member c.in_ok-first.first)) c.index.ensures c.place.ensures in
    least_if_within run.members run.entries c.requires.run.lawful c.args.view.now c.requires.view c.args.member c.number-at.result (let v = c.number-at.ensures.value in let b = c.number-at.ensures.bound in omega (arith, v, b)) c.number-at.ensures.value
    i c.requires.receipt.0 here c.in_ok-first.first (c.in_ok-first.ensures i stands) c.place.result place (cut_of c.moment_at-reached.result) c.moment_at-reached.ensures (cut_of c.joined-moment.result) c.joined-moment.ensures (c.is_within.ensures.0 c.if-is_within.true)

pub returns-else-is_within : goal.returns-else-is_within
returns-else-is_within c i stands =
    let run = c.args.pasts.now in
    let here = receipt_at run.entries c.args.place c.requires.receipt.0 i c.requires.receipt.1 stands in
    let place = subst (λ (es : List Entry). StandsAt es c.place.result (at c.args.member c.in_ok-first.first)) c.index.ensures c.place.ensures in
    none_if_more run.members run.entries c.requires.run.lawful c.args.view.now c.requires.view c.args.member c.number-at.result (let v = c.number-at.ensures.value in let b = c.number-at.ensures.bound in omega (arith, v, b)) c.number-at.ensures.value
    i c.requires.receipt.0 here c.in_ok-first.first (c.in_ok-first.ensures i stands) c.place.result place (cut_of c.moment_at-reached.result) c.moment_at-reached.ensures (cut_of c.joined-moment.result) c.joined-moment.ensures
    (λ within. false≢true (sym c.if-is_within.false ∙ c.is_within.ensures.1 within))
