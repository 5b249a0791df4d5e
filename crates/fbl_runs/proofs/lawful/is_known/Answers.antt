use Rattle.fbl_runs.proofs.Common.{◌≡◌, ◌∙◌, Option, ℕ, Some, at, sym, subst, entry_member, false≢true, slice_get, slice_get_within}
use Rattle.fbl_runs.specs.Clocks.{seen}
use Rattle.fbl_runs.specs.Receipts.{IsFirstReceipt}
use Rattle.fbl_runs.proofs.LeadsLaws.{here_stands}
use Rattle.fbl_runs.proofs.Listing.{read_at}
use Rattle.fbl_runs.proofs.RunLaws.{is_known, known_first, known_none}
use Rattle.fbl_runs.proofs.lawful.is_known.Goals as goal
use Rattle.fbl_runs.proofs.lawful.is_known.Goals.{After-recorded}

here : (c : After-recorded) → slice_get c.args.index.now c.args.place ≡ Some c.index-entries-place.result
here c = read_at c.args.index.now c.entries.result.now c.args.place c.index-entries-place.result c.entries.ensures c.requires.place c.index-entries-place.is

pub precedes-requires-clause-first : goal.precedes-requires-clause-first
precedes-requires-clause-first c =
    let es = c.args.index.now in
    let first = subst (λ (o : Option ℕ). IsFirstReceipt es c.in-Some.determinant o) c.in-Some-first.is (c.first.ensures es c.requires.receipts) in
    slice_get_within es c.in-Some-first.first first.1.0 first.1.1

pub returns-in-Some-first : goal.returns-in-Some-first
returns-in-Some-first c clocks =
    let at_place = here (goal.at.returns-in-Some-first c).After-recorded in
    let es = c.args.index.now in
    let e = c.index-entries-place.result in
    let d = c.in-Some.determinant in
    let j = at (entry_member e) (seen es c.args.place (entry_member e)) in
    let stands = here_stands es c.args.place e at_place in
    let first = subst (λ (o : Option ℕ). IsFirstReceipt es d o) c.in-Some-first.is (c.first.ensures es c.requires.receipts) in
    is_known es c.args.place e d (c.precedes.result ≡ _) at_place (sym c.recorded.ensures ∙ c.in-Some.is) (known_first es c.args.place c.in-Some-first.first d j stands first c.precedes.result (λ i stands_i. c.precedes.ensures _ i j clocks stands_i stands))

pub returns-in-None : goal.returns-in-None
returns-in-None c clocks =
    let at_place = here (goal.at.returns-in-None c).After-recorded in
    let es = c.args.index.now in
    let e = c.index-entries-place.result in
    let d = c.in-Some.determinant in
    let first = subst (λ (o : Option ℕ). IsFirstReceipt es d o) c.in-None.is (c.first.ensures es c.requires.receipts) in (
      λ no'. absurd (false≢true no'),
      λ known. absurd (known_none es d (at (entry_member e) (seen es c.args.place (entry_member e))) first (known e d at_place (sym c.recorded.ensures ∙ c.in-Some.is))),
    )
