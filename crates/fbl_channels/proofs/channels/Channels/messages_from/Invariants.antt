use Rattle.fbl_channels.proofs.Common.{◌≡◌, ◌≤◌, ◌*◌, length, channel_in, sum_below, rows}
use Rattle.fbl_channels.proofs.channels.Channels.messages_from.Given as goal

abbrev pub invariant-loop-number : goal.invariant-loop-number
invariant-loop-number g l = record { counted : l.messages ≡ sum_below l.number (λ p. length (channel_in (rows l.self) l.from p)); few : l.messages ≤ l.number * 8192 }
