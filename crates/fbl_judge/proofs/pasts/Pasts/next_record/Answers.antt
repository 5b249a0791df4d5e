use Rattle.fbl_judge.proofs.Common.{◌+◌, subst, sym}
use Rattle.fbl_runs.specs.Logs.{RunParts}
use Rattle.fbl_runs.specs.Records.{IsNextRecord, IsRecordAt}
use Rattle.fbl_judge.proofs.pasts.Pasts.next_record.Goals as goal

pub returns : goal.returns
returns c d here =
    let inside = subst (λ (run : RunParts). IsRecordAt run.entries d c.args.place) (sym c.self.view_is) here in
    subst (λ (run : RunParts). IsNextRecord run.entries d (c.args.place + 1) c.next.result) c.self.view_is
    (c.next.ensures c.self.inside.run.now.entries d c.self.invariant.records inside)
