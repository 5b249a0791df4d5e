use Rattle.fbl_runs.proofs.Common.{◌≡◌, ap, length, refl, slice_get, slice_get_read, Some, sym}
use Rattle.std.proofs.Common.{set}
use Rattle.fbl_runs.proofs.RecordLaws.{no_record, one_record}
use Rattle.fbl_runs.proofs.records.RecordPlaces.add.Goals as goal
use Rattle.fbl_runs.proofs.records.RecordPlaces.add.Goals.{After-recorded}

here : (c : After-recorded) → slice_get c.args.entries.now c.args.place ≡ Some c.index-entries-place.result
here c = slice_get_read c.args.entries.now (length c.args.entries.now) c.args.place c.index-entries-place.result refl c.requires.within c.index-entries-place.is

pub returns-in_ok-next : goal.returns-in_ok-next
returns-in_ok-next c =
    let c2 = (goal.at.returns-in_ok-next c).After-recorded in
    one_record c.args.entries.now c.args.place c.index-entries-place.result (here c2) c.args.self.now c.requires.records c.in-Some.determinant (sym c.in-Some.ensures) _
    c.in_ok-next.ensures.updates.0 (ap (λ o. set c.args.self.now.nexts.items c.args.place o) c.in_ok-next.ensures.old)

pub returns-in_default : goal.returns-in_default
returns-in_default c =
    let c2 = (goal.at.returns-in_default c).After-recorded in
    no_record c.args.entries.now c.args.place c.index-entries-place.result (here c2) c.args.self.now c.requires.records (sym c.in_default.ensures)
