use Rattle.fbl_group.proofs.Recovering.{◌∙◌, sym, read_at}
use Rattle.fbl_group.proofs.group.Group.working.Goals as goal

pub returns-then-has : goal.returns-then-has
returns-then-has g c = rw (sym (rw c.down.ensures.down at c.has.ensures) ∙ c.if-has.true) (read_at c.args.self.now.outside c.args.rebuilt.now (c.from.ensures ∙ c.number.ensures.value) (rw c.requires.size c.requires.member) c.index-rebuilt-from.is)

pub returns-else-has : goal.returns-else-has
returns-else-has g c = rw (sym (rw c.down.ensures.down at c.has.ensures) ∙ c.if-has.false) c.record.ensures.value
