use Rattle.fbl_law.proofs.GroupRecovery.{cut-one, cut-undone, gains_the_down, group_recovery_gains_holders, recovered_trace-cut, recovery_leaves_recorded}
use Rattle.fbl_law.proofs.Recovery.{cut_is_closed, stays_is_recorded}
use Rattle.fbl_law.proofs.laws.recovery_law.Goals as goal

pub returns : goal.returns
returns g c = record {
  stay = group_recovery_gains_holders _ _;
  gain = gains_the_down _ _;
  left = recovery_leaves_recorded _ _;
  undone = λ next old new step sound. cut-undone sound step.trace;
  cut = recovered_trace-cut;
  one = λ next old new step sound. cut-one sound step.trace;
  stays = stays_is_recorded;
  closed = cut_is_closed;
}
