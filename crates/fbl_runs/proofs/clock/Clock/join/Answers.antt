use Rattle.std.proofs.Common.{◌<◌, ◌≢◌, length, arith, get_or-set_other, get_or-set_same, below_more, length-set, refl, ◌∙◌}
use Rattle.fbl_runs.proofs.clock.Clock.join.Goals as goal

pub loop-number-init : goal.loop-number-init
loop-number-init c = record { room = c.args.self.now.room; below = λ q below. absurd (omega arith); above = λ q past. refl }

pub loop-number-preserved : goal.loop-number-preserved
loop-number-preserved c = record {
  room = length-set c.loop-number.self.counts _ _ ∙ c.loop-number.invariant.room;
  below = below_more _ _
      (λ q before. (let ne : q ≢ c.loop-number.number = omega arith in rw get_or-set_other (c.loop-number.invariant.below q before)))
      (let lt : c.loop-number.number < length c.loop-number.self.counts = omega arith in rw (get_or-set_same, ← c.loop-number.invariant.above c.loop-number.number (omega arith)) c.max.ensures);
  above = λ q past. (let ne : q ≢ c.loop-number.number = omega arith in rw get_or-set_other (c.loop-number.invariant.above q (omega arith)));
}
