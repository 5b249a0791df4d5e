use Rattle.fbl_verdicts.proofs.Sayings.{all_said}
use Rattle.fbl_verdicts.proofs.run_explanation.RunExplanation.of_check.Goals as goal

pub unsafe_reasons-requires : goal.unsafe_reasons-requires
unsafe_reasons-requires c = rw c.as_slice.ensures.value (all_said _ _ _ _ c.requires.says)
