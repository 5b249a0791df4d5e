use Rattle.fbl_group.proofs.Recovering.{◌∙◌, arith, replaying-next, replaying-room, is-record, replays-one}
use Rattle.fbl_group.proofs.group.Group.replay_next.Goals as goal

pub index_mut-record-requires : goal.index_mut-record-requires
index_mut-record-requires g c = omega (arith, c.next_replay.ensures.sound.down c.args.member c.requires.down, c.requires.replaying.replaying.size, c.args.rebuilt.now.ok.0)

pub replay_one-requires : goal.replay_one-requires
replay_one-requires g c =
    let sound = c.next_replay.ensures.sound in
    let down = sound.down c.args.member c.requires.down in
    let next = replaying-next g.B.Behaviour.next _ sound _ c.requires.replaying.replaying c.args.member down c.requires.down _ c.in-Some.ensures.found in
    let room = replaying-room g.B.Behaviour.next _ sound _ c.requires.replaying.replaying c.args.member down c.requires.down _ c.in-Some.ensures.found _ c.in-Some.ensures.sent in
    rw (is-record sound c.requires.replaying.replaying c.requires.down (c.from.ensures ∙ c.number.ensures.value) c.index_mut-record.ensures.value) (record {
      least = omega (arith, c.size.ensures.value, sound.config.members.0);
      most = omega (arith, c.size.ensures.value, sound.config.members.1);
      member = omega (arith, c.size.ensures.value, down);
      to_me = next.to;
      next = next.rsn;
      receipts = next.room;
      sends = rw c.size.ensures.value room;
    })

pub returns : goal.returns
returns g c =
    replays-one c.next_replay.ensures.sound c.requires.replaying.replaying c.requires.down (c.from.ensures ∙ c.number.ensures.value) c.index_mut-record.ensures.value
    c.in-Some.ensures.found c.in-Some.ensures.sent c.size.ensures.value c.requires.replaying.tables c.in_ok-replay_one.ensures.replayed
