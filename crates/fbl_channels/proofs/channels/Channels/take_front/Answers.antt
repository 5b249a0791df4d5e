use Rattle.fbl_channels.proofs.Queues.{drop, ap, ◌∙◌, arith, get_or-set_other, found, within_row}
use Rattle.fbl_channels.proofs.channels.Channels.take_front.Goals as goal

pub returns : goal.returns
returns g c =
    let channel = found c.args.self.now (c.from.ensures ∙ c.number.ensures.value) (c.from-2.ensures ∙ c.number-2.ensures.value) (c.requires.from, c.requires.to)
    c.index_mut.ensures.value c.index_mut-2.ensures.value in
    record {
      taken = channel.changed c.pop_front.new.self (c.pop_front.ensures.rest ∙ ap (λ vs. drop 1 vs) channel.messages);
      room = λ q p other. grind (arith, get_or-set_other, channel.room_set c.pop_front.new.self);
    }

pub index_mut-requires-2 : goal.index_mut-requires-2
index_mut-requires-2 g c = omega (arith, within_row c.args.self.now (c.from.ensures ∙ c.number.ensures.value) (c.from-2.ensures ∙ c.number-2.ensures.value) (c.requires.from, c.requires.to) c.index_mut.ensures.value, c.index_mut.result.now.ok.0)
