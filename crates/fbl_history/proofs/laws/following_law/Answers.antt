use Rattle.std.proofs.Common.{rules}
use Rattle.fbl_history.proofs.Deliveries.{follows_delivery}
use Rattle.fbl_history.proofs.Steps.{begins_at_start, follows_checkpoint, follows_strike}
use Rattle.fbl_history.proofs.Recoveries.{follows_recovery}
use Rattle.fbl_history.proofs.Turning.{follows_turns}
use Rattle.fbl_history.proofs.laws.following_law.Goals as goal

pub returns : goal.returns
returns c = search (rules, begins_at_start, follows_delivery, follows_strike, follows_checkpoint, follows_recovery, follows_turns)
