use Rattle.fbl_runs.proofs.Common.{ℕ, Option, ◌≡◌, length, receipt_in, refl, slice_get, slice_get_read, Some, subst, sym}
use Rattle.std.specs.HashMap as hash_map
use Rattle.fbl_trace.specs.Events.{same_determinant}
use Rattle.fbl_runs.specs.Receipts.{IsReceiptPlace}
use Rattle.fbl_runs.specs.Records.{IsFirstFrom}
use Rattle.fbl_runs.proofs.RecordLaws.{first_more, first_still}
use Rattle.fbl_runs.proofs.receipts.ReceiptPlaces.add.Goals as goal
use Rattle.fbl_runs.proofs.receipts.ReceiptPlaces.add.Goals.{After-receipt}

here : (c : After-receipt) → slice_get c.args.entries.now c.args.place ≡ Some c.index-entries-place.result
here c = slice_get_read c.args.entries.now (length c.args.entries.now) c.args.place c.index-entries-place.result refl c.requires.within c.index-entries-place.is

pub returns-in_ok-insert : goal.returns-in_ok-insert
returns-in_ok-insert c x =
    let es = c.args.entries.now in
    let now = here (goal.at.returns-in_ok-insert c).After-receipt in
    let old = hash_map.get same_determinant c.args.self.now.firsts x in
    subst (λ (o : Option ℕ). IsFirstFrom (IsReceiptPlace es x) c.args.place o) (sym (c.in_ok-insert.ensures.updates.0 x))
    (first_more receipt_in es c.args.place c.index-entries-place.result now c.in-Some.determinant (sym c.in-Some.ensures) x old (c.requires.receipts x))

pub returns-in_default : goal.returns-in_default
returns-in_default c x =
    let now = here (goal.at.returns-in_default c).After-receipt in
    first_still receipt_in c.args.entries.now c.args.place c.index-entries-place.result now (sym c.in_default.ensures) x
    (hash_map.get same_determinant c.args.self.now.firsts x) (c.requires.receipts x)
