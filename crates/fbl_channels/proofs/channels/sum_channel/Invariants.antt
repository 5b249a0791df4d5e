use Rattle.fbl_channels.proofs.Common.{◌≡◌, ◌≤◌, ◌*◌, take, value_of}
use Rattle.fbl_channels.proofs.channels.sum_channel.Given as goal

abbrev pub invariant-loop-place : goal.invariant-loop-place
invariant-loop-place l = record { summed : l.sum ≡ value_of (take l.place l.channel.items); bound : l.sum ≤ l.place * 4294967295 }
