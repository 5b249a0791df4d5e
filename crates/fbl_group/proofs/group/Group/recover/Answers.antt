use Rattle.fbl_group.proofs.Striking.{arith, cut-undone, group_recovery_gains_holders, restores, len-empty}
use Rattle.fbl_group.proofs.group.Group.recover.Goals as goal

pub returns-in-Err-clause-refused : goal.returns-in-Err-clause-refused
returns-in-Err-clause-refused g c none = c.if-count-eq0.false (rw (c.count.ensures, c.down.ensures.down, none) (len-empty _))

pub returns-in-Ok : goal.returns-in-Ok
returns-in-Ok g c = record {
  recovered = (λ none. c.if-count-eq0.false (rw (c.count.ensures, c.down.ensures.down, none) (len-empty _)), c.in-Ok.ensures.recovered);
  restored = restores g.B.Behaviour.next _ _ _ c.promises.ensures.sound c.in-Ok.ensures.recovered;
  undone = omega (arith, cut-undone c.promises.ensures.sound c.in-Ok.ensures.recovered.recovery.trace, c.in-Ok.ensures.recovered.undone);
  first = c.promises.ensures.first;
  holders = group_recovery_gains_holders _ _ g.B.Behaviour.next _ _ c.in-Ok.ensures.recovered.recovery c.promises.ensures.sound;
  refused = tt;
  unchanged = tt;
}
