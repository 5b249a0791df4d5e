use Rattle.fbl_channels.proofs.Queues.{◌∙◌, found}
use Rattle.fbl_channels.proofs.channels.Channels.clear.Goals as goal

pub returns : goal.returns
returns g c =
    let channel = found c.args.self.now (c.from.ensures ∙ c.number.ensures.value) (c.from-2.ensures ∙ c.number-2.ensures.value) (c.requires.from, c.requires.to)
    c.index_mut.ensures.value c.index_mut-2.ensures.value in
    channel.changed c.clear.new.self c.clear.ensures.items
