use Rattle.fbl_group.proofs.Common.{sym, subst, ◌∙◌, Parts, IsDumpOrphan, dump_obeys_rules, dump_has_no_orphan, false≢true}
use Rattle.fbl_law.specs.Promises.{DumpObeysRules, DumpHasNoOrphan}
use Rattle.fbl_group.proofs.group.Group.dump.Goals as goal

pub lawful-requires : goal.lawful-requires
unfolding DumpObeysRules
lawful-requires g c = rw c.in-Ok.ensures (dump_obeys_rules _ _ g.B.Behaviour.next c.args.self.now c.args.strike c.promises.ensures.sound (rw c.size.ensures.value at (c.within.ensures.0 c.if-not-within.false)))

pub returns-in-Ok-clause-no_orphan : goal.returns-in-Ok-clause-no_orphan
unfolding DumpHasNoOrphan
returns-in-Ok-clause-no_orphan g c covers few m = subst (λ (d : Parts). ¬ (IsDumpOrphan d m)) (sym (c.lawful.ensures ∙ c.in-Ok.ensures)) (dump_has_no_orphan _ _ g.B.Behaviour.next c.args.self.now c.args.strike m c.promises.ensures.sound covers few)

pub returns-in-Err-clause-refused : goal.returns-in-Err-clause-refused
returns-in-Err-clause-refused g c = rw c.size.ensures.value at (c.within.ensures.0 c.if-not-within.false)

pub returns-in-Ok-clause-dumped : goal.returns-in-Ok-clause-dumped
returns-in-Ok-clause-dumped g c = (rw c.size.ensures.value at (c.within.ensures.0 c.if-not-within.false), c.lawful.ensures ∙ c.in-Ok.ensures)

pub returns-then-not-within-clause-refused : goal.returns-then-not-within-clause-refused
returns-then-not-within-clause-refused g c = λ all. false≢true (sym c.if-not-within.true ∙ c.within.ensures.1 (rw c.size.ensures.value all))
