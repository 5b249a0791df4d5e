use Rattle.fbl_table.proofs.Common.{◌∙◌, arith, sym}
use Rattle.fbl_table.proofs.Adding.{gathered_first}
use Rattle.fbl_table.proofs.table.Table.gather.Goals as goal

pub returns-then-limit-clause-gathered : goal.returns-then-limit-clause-gathered
returns-then-limit-clause-gathered c =
    c.drop.view_is ∙ c.in_ok-self-inside.ensures ∙ sym (gathered_first c.args.self.now c.args.other.now (omega arith) c.len-len.ensures.unique)

pub returns-clause-gathered : goal.returns-clause-gathered
returns-clause-gathered c = rw (← c.self.view_is, ← c.other.view_is) c.gather.ensures.gathered
