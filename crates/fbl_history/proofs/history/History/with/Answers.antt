use Rattle.fbl_history.proofs.Sends.{follow_push}
use Rattle.fbl_history.proofs.history.History.with.Goals as goal

pub invariant_of-result : goal.invariant_of-result
invariant_of-result c = rw c.in_ok-push.ensures.items (follow_push c.self.inside.columns.items c.args.column c.requires c.self.invariant)
