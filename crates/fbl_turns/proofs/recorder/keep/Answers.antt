use Rattle.fbl_turns.proofs.Common.{ap, Some}
use Rattle.fbl_turns.proofs.recorder.keep.Goals as goal

pub returns-in-Some : goal.returns-in-Some
returns-in-Some g c = rw c.in-Some.is (ap Some c.push_reserved.ensures.items)
