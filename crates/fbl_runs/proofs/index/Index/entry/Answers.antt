use Rattle.fbl_runs.proofs.Common.{arith, List, Entry, refl, slice_get_read, slice_get_within, subst, sym, log_of, IsAt, at}
use Rattle.fbl_runs.specs.Clocks.{StandsAt}
use Rattle.fbl_runs.proofs.Listing.{stands_at}
use Rattle.fbl_runs.proofs.index.Index.entry.Goals as goal

pub bounds-entries-place : goal.bounds-entries-place
bounds-entries-place c =
    let stands = subst (λ (es : List Entry). StandsAt es c.place-place.result (at c.args.member c.args.number)) (sym c.self.view_is) c.place-place.ensures in
    slice_get_within c.self.inside.entries.now c.place-place.result stands.0 stands.1

pub offset_bounds-entries-place : goal.offset_bounds-entries-place
offset_bounds-entries-place c =
    let stands = subst (λ (es : List Entry). StandsAt es c.place-place.result (at c.args.member c.args.number)) (sym c.self.view_is) c.place-place.ensures in
    let below = slice_get_within c.self.inside.entries.now c.place-place.result stands.0 stands.1 in
    omega (arith, below)

pub returns : goal.returns
returns c =
    let es = c.self.inside.entries.now in
    let i = at c.args.member c.args.number in
    let place = c.place-place.result in
    let e = c.index-entries-place.result in
    let stands = subst (λ (es : List Entry). StandsAt es place i) (sym c.self.view_is) c.place-place.ensures in
    let here = slice_get_read es _ place e refl (slice_get_within es place stands.0 stands.1) c.index-entries-place.is in
    subst (λ (es : List Entry). IsAt (log_of es) i e) c.self.view_is (stands_at es place i e stands here)
