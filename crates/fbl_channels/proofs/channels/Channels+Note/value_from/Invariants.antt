use Rattle.fbl_channels.proofs.Common.{◌≡◌, ◌≤◌, ◌*◌, channel_in, sum_below, rows, value_of}
use Rattle.fbl_channels.proofs.channels.Channels+Note.value_from.Given as goal

abbrev pub invariant-loop-number : goal.invariant-loop-number
invariant-loop-number l = (l.value ≡ sum_below l.number (λ p. value_of (channel_in (rows l.self) l.from p))) × (l.value ≤ l.number * 35184372080640)
