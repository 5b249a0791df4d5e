use Rattle.fbl_channels.proofs.Common.{◌≡◌, sym, get_or-set_other, length-set}
use Rattle.fbl_channels.proofs.channels.Channels.take_and_send.Goals as goal

pub send_all-requires : goal.send_all-requires
send_all-requires g c =
    let other = λ (same : c.args.to ≡ c.args.from). c.requires.apart (sym same) in
    record {
      from = rw (c.take_front.ensures.taken, length-set) c.requires.to;
      receivers = rw (c.take_front.ensures.taken, get_or-set_other _ c.args.from c.args.to _ _ other) c.requires.receivers;
      room = λ k d below. rw (c.take_front.ensures.room c.args.to _ other) (c.requires.room k d below);
      trace = c.requires.trace;
    }
