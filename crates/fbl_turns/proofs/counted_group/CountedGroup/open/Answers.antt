use Rattle.fbl_turns.proofs.Common.{arith, ap}
use Rattle.fbl_turns.proofs.Recording.{opens, kept_if}
use Rattle.fbl_turns.proofs.counted_group.CountedGroup.open.Goals as goal

pub invariant_of-counted_group : goal.invariant_of-counted_group
invariant_of-counted_group g c = record {
  reached = ∣ opens g.B.Behaviour.next g.O.Origin.plan g.O.Origin.records c.requires.origin.0 c.requires.origin.1 c.nothing.ensures c.requires.records ∣₁;
  keeps = kept_if g.O.Origin.records c.requires.records;
  all_shared = omega (arith, ap (λ r. r.receipts_ever) c.requires.origin.0, c.open-receipts.ensures.total);
}
