use Rattle.fbl_channels.proofs.Common.{◌≡◌, ◌≤◌, ◌*◌, length, channel_in, sum_below, rows}
use Rattle.fbl_channels.proofs.channels.Channels.messages.Given as goal

abbrev pub invariant-loop-number : goal.invariant-loop-number
invariant-loop-number g l = (l.messages ≡ sum_below l.number (λ q. sum_below l.n (λ p. length (channel_in (rows l.self) q p)))) × (l.messages ≤ l.number * 131072)
