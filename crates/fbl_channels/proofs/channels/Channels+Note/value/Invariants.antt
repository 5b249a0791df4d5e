use Rattle.fbl_channels.proofs.Common.{◌≡◌, ◌≤◌, ◌*◌, channel_in, sum_below, rows, value_of}
use Rattle.fbl_channels.proofs.channels.Channels+Note.value.Given as goal

abbrev pub invariant-loop-number : goal.invariant-loop-number
invariant-loop-number l = (l.value ≡ sum_below l.number (λ q. sum_below l.n (λ p. value_of (channel_in (rows l.self) q p)))) × (l.value ≤ l.number * 562949953290240)
