use Rattle.fbl_group.proofs.Recovering.{◌≡◌, ◌∙◌, arith, length-set, put-down, put-up, replaced-end, contains}
use Rattle.fbl_group.proofs.recovery.rebuilt.Rebuilt.put_back.Goals as goal

pub loop-number-preserved : goal.loop-number-preserved
loop-number-preserved g c =
    let asked : contains c.args.self.now.down c.loop-number.number ≡ c.has.result = cc in
    elim c.if-has.branch [
      | goal.then-has w ↦
          rw (w.members-is, w.records-is) (record {
            members = length-set _ _ _ ∙ c.loop-number.invariant.members;
            records = length-set _ _ _ ∙ c.loop-number.invariant.records;
            put = put-down c.loop-number.invariant.put w.swap.new.y c.from-place.ensures (omega (arith, c.loop-number-test.true, c.requires.members, c.args.members.now.ok.0))
                (omega (arith, c.loop-number-test.true, c.requires.records, c.args.self.now.records.ok.0)) (asked ∙ w.if-has.true) (rw w.swap.ensures.x_after w.index_mut-then-has.ensures.value);
          })
      | goal.else-has w ↦
          rw (w.members-is, w.records-is) (record {
            members = c.loop-number.invariant.members;
            records = c.loop-number.invariant.records;
            put = put-up c.loop-number.invariant.put (asked ∙ w.if-has.false);
          })
    ]

pub returns : goal.returns
returns g c = replaced-end c.loop-number.invariant.put.turned (omega (arith, c.loop-number-test.false, c.requires.members, c.args.members.now.ok.0))
