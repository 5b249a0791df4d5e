use Rattle.fbl_law.proofs.ReplayLaws.{replay_begins, replay_is_right, replay_ends, rebuilt_is_recovered}
use Rattle.fbl_law.proofs.laws.replay_law.Goals as goal

pub returns : goal.returns
returns g c = search (replay_begins, replay_is_right, replay_ends, rebuilt_is_recovered)
