use Rattle.fbl_judge.proofs.Common.{◌≡◌, ◌∙◌, false≢true, inr, refl, slice_get, sym, Some, cut_of, Hold, Store}
use Rattle.fbl_judge.proofs.Places.{read_at}
use Rattle.fbl_judge.proofs.RecordedLaws.{hold_added, no_hold, no_store, none_added, store_come}
use Rattle.fbl_judge.proofs.recorded.RecordedAt.add.Goals as goal
use Rattle.fbl_judge.proofs.recorded.RecordedAt.add.Goals.{After-index-entries-place}

here : (c : After-index-entries-place) → slice_get c.args.pasts.now.entries c.args.place ≡ Some c.index-entries-place.result
here c = read_at c.args.pasts.now.entries c.entries.result.now c.args.place c.index-entries-place.result c.entries.ensures.entries c.requires c.index-entries-place.is

pub returns-then-stands-clause-holders : goal.returns-then-stands-clause-holders
returns-then-stands-clause-holders c =
    hold_added c.args.pasts.now.entries (cut_of c.args.moment.now) c.args.place c.index-entries-place.result (here (goal.at.returns-then-stands-clause-holders c).After-index-entries-place) c.in-Hold.holder c.in-Hold.determinant c.in-Hold.is
    (λ i at_i. (c.stands.ensures i at_i).0 c.if-stands.true) c.args.self.now.holders c.with-self.result c.with-self.ensures

pub returns-then-stands-clause-stored : goal.returns-then-stands-clause-stored
returns-then-stands-clause-stored c =
    none_added (no_store c.args.pasts.now.entries (cut_of c.args.moment.now) c.args.place c.index-entries-place.result (here (goal.at.returns-then-stands-clause-stored c).After-index-entries-place)
    (λ q d other. (let one : Hold c.in-Hold.holder c.in-Hold.determinant ≡ Store q d = sym c.in-Hold.is ∙ other in cc)))

pub returns-else-stands-clause-holders : goal.returns-else-stands-clause-holders
returns-else-stands-clause-holders c q = none_added (λ by. false≢true (sym c.if-stands.false ∙ (c.stands.ensures _ by.3).1 by.4))

pub returns-else-stands-clause-stored : goal.returns-else-stands-clause-stored
returns-else-stands-clause-stored c =
    none_added (no_store c.args.pasts.now.entries (cut_of c.args.moment.now) c.args.place c.index-entries-place.result (here (goal.at.returns-else-stands-clause-stored c).After-index-entries-place)
    (λ q d other. (let one : Hold c.in-Hold.holder c.in-Hold.determinant ≡ Store q d = sym c.in-Hold.is ∙ other in cc)))

pub returns-then-has_come-clause-holders : goal.returns-then-has_come-clause-holders
returns-then-has_come-clause-holders c q =
    none_added (no_hold c.args.pasts.now.entries (cut_of c.args.moment.now) c.args.place c.index-entries-place.result (here (goal.at.returns-then-has_come-clause-holders c).After-index-entries-place) q
    (λ d other. (let one : Store c.in-Store.member c.in-Store.determinant ≡ Hold q d = sym c.in-Store.is ∙ other in cc)))

pub returns-then-has_come-clause-stored : goal.returns-then-has_come-clause-stored
returns-then-has_come-clause-stored c = (
  λ h. inr (store_come c.args.pasts.now.entries (cut_of c.args.moment.now) c.args.place c.index-entries-place.result (here (goal.at.returns-then-has_come-clause-stored c).After-index-entries-place) c.in-Store.member c.in-Store.determinant c.in-Store.is
      (λ i at_i. (c.has_come.ensures i at_i).0 c.if-has_come.true)),
  λ h. refl,
)

pub returns-else-has_come-clause-holders : goal.returns-else-has_come-clause-holders
returns-else-has_come-clause-holders c q =
    none_added (no_hold c.args.pasts.now.entries (cut_of c.args.moment.now) c.args.place c.index-entries-place.result (here (goal.at.returns-else-has_come-clause-holders c).After-index-entries-place) q
    (λ d other. (let one : Store c.in-Store.member c.in-Store.determinant ≡ Hold q d = sym c.in-Store.is ∙ other in cc)))

pub returns-else-has_come-clause-stored : goal.returns-else-has_come-clause-stored
returns-else-has_come-clause-stored c = none_added (λ by. false≢true (sym c.if-has_come.false ∙ (c.has_come.ensures _ by.3).1 by.4))

pub returns-in_default : goal.returns-in_default
returns-in_default c =
    let es = c.args.pasts.now.entries in
    let cut = cut_of c.args.moment.now in
    let e = c.index-entries-place.result in
    let there = here (goal.at.returns-in_default c).After-index-entries-place in record {
      holders = λ q. none_added (no_hold es cut c.args.place e there q (λ d is. c.in_default.not-Hold q d is));
      stored = none_added (no_store es cut c.args.place e there (λ q d is. c.in_default.not-Store q d is));
    }
