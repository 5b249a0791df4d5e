use Rattle.fbl_channels.proofs.Queues.{◌∙◌, found, reads, within_row, arith}
use Rattle.fbl_channels.proofs.channels.Channels.reserve.Goals as goal

pub returns : goal.returns
returns g c =
    let channel = found c.args.self.now (c.from.ensures ∙ c.number.ensures.value) (c.from-2.ensures ∙ c.number-2.ensures.value) (c.requires.from, c.requires.to)
    c.index_mut.ensures.value c.index_mut-2.ensures.value in
    record {
      same = channel.kept c.reserve.new.self c.reserve.ensures.items;
      grows = λ q p. rw (channel.room_set c.reserve.new.self) grind (reads, channel.room, channel.in_room, c.reserve.ensures.len, c.reserve.ensures.capacity);
      room = rw (channel.room_set c.reserve.new.self) grind (reads, channel.in_room, c.reserve.ensures.ok);
    }

pub index_mut-requires-2 : goal.index_mut-requires-2
index_mut-requires-2 g c = omega (arith, within_row c.args.self.now (c.from.ensures ∙ c.number.ensures.value) (c.from-2.ensures ∙ c.number-2.ensures.value) (c.requires.from, c.requires.to) c.index_mut.ensures.value, c.index_mut.result.now.ok.0)
