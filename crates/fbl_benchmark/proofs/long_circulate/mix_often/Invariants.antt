use Rattle.std.proofs.Common.{◌≡◌, ◌<◌}
use Rattle.fbl_trace.specs.Steps.{modulus}
use Rattle.fbl_benchmark.specs.Circulation.{mixed}
use Rattle.fbl_benchmark.proofs.long_circulate.mix_often.Given as goal

abbrev pub invariant-loop-round : goal.invariant-loop-round
invariant-loop-round l = record { value : l.mixed ≡ mixed l._round l.state; below : l.mixed < modulus }
