use Rattle.std.proofs.lemmas.Result.{IfOk-weaker}
use Rattle.fbl_group.proofs.group.Group.begin_one.Goals as goal

pub initial-first-requires : goal.initial-first-requires
initial-first-requires g c = record { least = rw (c.size.ensures.value, ← c.self.view_is) c.self.invariant.config.members.0; most = c.size.ensures.few; member = rw c.size.ensures.value c.requires }

pub returns-in_ok-table-clause-begun : goal.returns-in_ok-table-clause-begun
returns-in_ok-table-clause-begun g c down = IfOk-weaker c.copy_with.result _ _ (λ m is. cc (c.in_ok-table.ensures.table)) c.copy_with.ensures
