use Rattle.fbl_judge.proofs.Common.{cut_of}
use Rattle.fbl_judge.proofs.ReasonLaws.{counts_are}
use Rattle.fbl_judge.proofs.reason.reason_at.Goals as goal

pub returns-clause-reason : goal.returns-clause-reason
returns-clause-reason c i at_i = record {
  moment = counts_are c.args.pasts.now c.run-run.ensures.rules (cut_of c.args.receipt.now.moment) c.counts_at.result c.counts_at.ensures.room c.counts_at.ensures.counts c.requires.within;
  holders = c.recorded_at.ensures.holders;
  next = c.next_place.ensures;
  paths = c.in_ok-paths_to.ensures i at_i;
}
