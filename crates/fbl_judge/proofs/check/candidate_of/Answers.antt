use Rattle.fbl_judge.proofs.Common.{arith, false, false≢true, nat_tests, refl, slice_get_within, sym, true, ◌≡◌, ◌∙◌}
use Rattle.fbl_runs.specs.Clocks.{cut_of}
use Rattle.fbl_judge.proofs.DependLaws.{receipt_at}
use Rattle.fbl_judge.proofs.UnsafeLaws.{none_if_many, none_if_none, none_if_struck, none_if_undone, one_if_left}
use Rattle.fbl_judge.proofs.check.candidate_of.Goals as goal

pub returns-in_err-moment-clause-first : goal.returns-in_err-moment-clause-first
returns-in_err-moment-clause-first c i stands =
    let run = c.args.pasts.now in
    let d = c.args.determinant.now in
    let receipt = receipt_at run.entries c.args.place d i c.requires.receipt stands in
    rw c.from_residual.ensures (none_if_none run c.requires.run.lawful c.requires.run.strike i d receipt c.args.member (cut_of c.args.view.now.base) (c.in_err-moment.ensures i stands))

pub stands-requires : goal.stands-requires
stands-requires c = slice_get_within c.args.pasts.now.entries c.args.place c.requires.receipt.0 c.requires.receipt.1

pub returns-then-not-stands-clause-first : goal.returns-then-not-stands-clause-first
returns-then-not-stands-clause-first c i stands =
    let run = c.args.pasts.now in
    let d = c.args.determinant.now in
    let receipt = receipt_at run.entries c.args.place d i c.requires.receipt stands in
    let undone : c.stands.result ≡ false = grind (arith, nat_tests, c.if-not-stands.true) in
    none_if_undone run c.requires.run.lawful c.requires.run.strike i d receipt c.args.member (cut_of c.args.view.now.base) (cut_of c.in_ok-moment.moment) (c.in_ok-moment.ensures i stands)
    (λ s. false≢true (sym undone ∙ (c.stands.ensures i stands).1 s))

pub returns-in_err-strike-clause-first : goal.returns-in_err-strike-clause-first
returns-in_err-strike-clause-first c i stands =
    let run = c.args.pasts.now in
    let d = c.args.determinant.now in
    let receipt = receipt_at run.entries c.args.place d i c.requires.receipt stands in
    rw c.from_residual-in_err-strike.ensures (none_if_many run c.requires.run.lawful c.requires.run.strike i d receipt c.args.member (cut_of c.args.view.now.base) (cut_of c.in_ok-moment.moment) (c.in_ok-moment.ensures i stands) c.in_err-strike.ensures)

pub returns-then-has-clause-first : goal.returns-then-has-clause-first
returns-then-has-clause-first c i stands =
    let run = c.args.pasts.now in
    let d = c.args.determinant.now in
    let receipt = receipt_at run.entries c.args.place d i c.requires.receipt stands in
    none_if_struck run c.requires.run.lawful c.requires.run.strike i d receipt c.args.member (cut_of c.args.view.now.base) (cut_of c.in_ok-moment.moment) (c.in_ok-moment.ensures i stands)
    c.in_ok-strike.strike c.in_ok-strike.ensures (sym c.has.ensures ∙ c.if-has.true)

pub returns-clause-first : goal.returns-clause-first
returns-clause-first c i stands =
    let run = c.args.pasts.now in
    let d = c.args.determinant.now in
    let receipt = receipt_at run.entries c.args.place d i c.requires.receipt stands in
    let there : c.stands.result ≡ true = grind (arith, nat_tests, c.if-not-stands.false) in
    one_if_left run c.requires.run.lawful c.requires.run.strike i d receipt c.args.member (cut_of c.args.view.now.base) (cut_of c.in_ok-moment.moment) (c.in_ok-moment.ensures i stands)
    (record { orphan = c.args.member; moment = c.in_ok-moment.moment; strike = c.in_ok-strike.strike; restarts = c.args.view.now.restarts }) refl refl c.requires.view.restarts ((c.stands.ensures i stands).0 there) c.in_ok-strike.ensures (sym c.has.ensures ∙ c.if-has.false)
