use Rattle.fbl_group.proofs.Common.{◌≡◌, add-one, append-nil, fold-append, sym, contains}
use Rattle.fbl_group.proofs.group.Group.gather_checkpoints.Goals as goal

pub loop-number-preserved : goal.loop-number-preserved
loop-number-preserved g c =
    let asked : contains c.args.self.now.down c.loop-number.number ≡ c.has.result = rw (c.down.ensures.down, c.at-member.ensures) at (sym c.has.ensures) in
    elim c.if-has.branch [
      | goal.then-has+in_ok-gather w ↦
          rw (w.gathered-is, add-one, asked, w.if-has.true, fold-append, ← c.loop-number.invariant, w.in_ok-gather.ensures.gathered) (cc)
      | goal.else-has w ↦ rw (w.gathered-is, add-one, asked, w.if-has.false, append-nil) c.loop-number.invariant
    ]
