use Rattle.fbl_channels.proofs.Queues.{◌++◌, ◌∷◌, [], ap, ◌∙◌, found, within_row, arith}
use Rattle.fbl_channels.proofs.channels.Channels.send.Goals as goal

pub returns : goal.returns
returns g c =
    let channel = found c.args.self.now (c.from-2.ensures ∙ c.number.ensures.value ∙ c.from.ensures) (c.from-3.ensures ∙ c.number-2.ensures.value ∙ c.to.ensures)
    (c.requires.from, c.requires.to) c.index_mut.ensures.value c.index_mut-2.ensures.value in
    channel.changed c.push_back.new.self (c.in_ok-push_back.ensures.items ∙ ap (λ vs. vs ++ c.args.wire ∷ []) channel.messages)

pub index_mut-requires-2 : goal.index_mut-requires-2
index_mut-requires-2 g c = omega (arith, within_row c.args.self.now (c.from-2.ensures ∙ c.number.ensures.value ∙ c.from.ensures) (c.from-3.ensures ∙ c.number-2.ensures.value ∙ c.to.ensures) (c.requires.from, c.requires.to) c.index_mut.ensures.value, c.index_mut.result.now.ok.0)
