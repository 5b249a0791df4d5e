use Rattle.std.proofs.Common.{◌<◌, ◌≢◌, length, arith, ap, get_or-set_other, get_or-set_same, below_more, length-set, ◌∙◌}
use Rattle.fbl_judge.proofs.Common.{cut_of}
use Rattle.fbl_judge.proofs.reason.counts_at.Goals as goal

pub loop-number-preserved : goal.loop-number-preserved
loop-number-preserved c = record {
  room = length-set c.loop-number.counts _ _ ∙ c.loop-number.invariant.room;
  below = below_more _ _
      (λ q before. (let ne : q ≢ c.loop-number.number = omega arith in rw get_or-set_other (c.loop-number.invariant.below q before)))
      (let lt : c.loop-number.number < length c.loop-number.counts = (let room = c.loop-number.invariant.room in let test = c.loop-number-test.true in omega (arith, room, test)) in
      rw get_or-set_same (c.count.ensures ∙ ap (cut_of c.args.moment.now) c.at.ensures));
}
