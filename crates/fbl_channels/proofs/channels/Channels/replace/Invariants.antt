use Rattle.fbl_channels.proofs.Queues.{channel_in, rows, Replacing}
use Rattle.fbl_channels.proofs.channels.Channels.replace.Given as goal

abbrev pub invariant-loop-sender : goal.invariant-loop-sender
invariant-loop-sender g l = record {
  replaced : Replacing l.n l.down (channel_in (rows l.fn.again)) (rows l.fn.self) (rows l.self) l.sender 0;
  left : Replacing l.n l.down (channel_in (rows l.fn.self)) (rows l.fn.again) (rows l.again) l.sender 0;
}

abbrev pub invariant-loop-receiver : goal.invariant-loop-receiver
invariant-loop-receiver g l = record {
  replaced : Replacing l.n l.down (channel_in (rows l.fn.again)) (rows l.fn.self) (rows l.self) l.sender l.receiver;
  left : Replacing l.n l.down (channel_in (rows l.fn.self)) (rows l.fn.again) (rows l.again) l.sender l.receiver;
}
