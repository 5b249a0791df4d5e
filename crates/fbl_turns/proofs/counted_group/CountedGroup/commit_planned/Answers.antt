use Rattle.fbl_turns.proofs.Common.{arith, ◌∙◌, recorded}
use Rattle.fbl_turns.proofs.Keeping.{one_at_most}
use Rattle.fbl_turns.proofs.Kept.{kept_by_some}
use Rattle.fbl_turns.proofs.Recording.{keeps_on, one_more, some_run}
use Rattle.fbl_turns.proofs.counted_group.CountedGroup.commit_planned.Goals as goal

pub make_turn-ends-requires : goal.make_turn-ends-requires
make_turn-ends-requires g c =
    let k = kept_by_some g.row.B-State.coded g.row.B-Note.coded (some_run (recorded c.args.self.now.records) c.args.self.now.reached) in (
      g.met.B.Behaviour.laws.fits,
      (
        (omega (arith, k.places.0, c.number.ensures.bound), omega (arith, k.places.1, c.number.ensures.bound)),
        (omega (arith, k.receipts, k.undone_ever), rw (c.requires.plan.0, k.config) c.requires.plan.1),
      ),
    )

pub overflow_sub-made : goal.overflow_sub-made
overflow_sub-made g c = omega (arith, (one_at_most c.make_turn-ends.ensures.turn.turn).0, c.receipts_ever-before.ensures, c.receipts_ever.ensures)

pub finish-idle-requires-clause-made : goal.finish-idle-requires-clause-made
finish-idle-requires-clause-made g c = omega (arith, (one_at_most c.make_turn-ends.ensures.turn.turn).1, c.receipts_ever-before.ensures, c.receipts_ever.ensures)

pub invariant_of-self : goal.invariant_of-self
invariant_of-self g c = record {
  reached = one_more (recorded c.args.self.now.records) _ c.args.self.now.reached c.number.ensures.bound (rw c.requires.plan.0 at c.make_turn-ends.ensures.turn);
  keeps = keeps_on (recorded c.args.self.now.records) _ c.make_turn-ends.ensures.turn ∙ c.args.self.now.keeps;
  all_shared =
      omega (arith, (one_at_most c.make_turn-ends.ensures.turn.turn).0, c.receipts_ever-before.ensures, c.receipts_ever.ensures, c.finish-idle.ensures.book, c.args.self.now.all_shared);
}
