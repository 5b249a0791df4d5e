use Rattle.std.proofs.Common.{rules}
use Rattle.fbl_history.proofs.record.columns.restore.Goals as goal

pub returns-clause-restored : goal.returns-clause-restored
returns-clause-restored g c = record {
  answer = c.in_ok-bring_back.ensures.recovered.0;
  recovers = c.in_ok-bring_back.ensures.recovered.1;
  back = search rules;
  mid = c.push_round-2.new.entries.items;
  restarts = search rules;
  last = c.in_ok-told.told.items;
  survivors = search rules;
  entries = search rules;
  untold = search rules;
}
