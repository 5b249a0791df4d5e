use Rattle.std.proofs.Common.{◌≡◌, ◌+◌, ◌*◌, ◌%◌, suc, ap, refl, ◌∙◌, arith}
use Rattle.fbl_trace.specs.Steps.{modulus}
use Rattle.fbl_benchmark.specs.Circulation.{mixed}
use Rattle.fbl_benchmark.proofs.long_circulate.mix_often.Goals as goal

pub loop-round-init : goal.loop-round-init
unfolding mixed
loop-round-init c = record { value = refl; below = c.requires }

pub loop-round-preserved : goal.loop-round-preserved
unfolding mixed
loop-round-preserved c =
    let next : suc c.loop-round._round ≡ c.loop-round._round + 1 = omega arith in
    record { value = ap (λ s. (31 * s + 1) % modulus) c.loop-round.invariant.value ∙ ap (λ count. mixed count c.args.state) next; below = omega arith }
