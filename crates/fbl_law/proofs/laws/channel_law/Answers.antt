use Rattle.fbl_law.proofs.Channels.{first_in_first_out}
use Rattle.fbl_law.proofs.laws.channel_law.Goals as goal

pub returns : goal.returns
returns g c = first_in_first_out _ _
