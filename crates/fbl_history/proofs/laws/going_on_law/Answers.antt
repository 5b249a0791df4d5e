use Rattle.std.proofs.Common.{rules}
use Rattle.fbl_history.proofs.Standing.{standing_is_trace}
use Rattle.fbl_history.proofs.Undoing.{goes_on}
use Rattle.fbl_history.proofs.laws.going_on_law.Goals as goal

pub returns : goal.returns
returns c = search (rules, standing_is_trace, goes_on)
