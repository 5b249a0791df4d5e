use Rattle.fbl_channels.proofs.Queues.{◌∙◌, found}
use Rattle.fbl_channels.proofs.channels.Channels.between.Goals as goal

pub returns : goal.returns
returns g c = let is_to = c.from-2.ensures ∙ c.number-2.ensures.value in (found c.args.self.now (c.from.ensures ∙ c.number.ensures.value) is_to (c.requires.from, c.requires.to) c.index.ensures c.index-2.ensures).messages
