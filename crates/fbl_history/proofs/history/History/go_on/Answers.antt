use Rattle.fbl_history.proofs.Common.{ap, subst, sym, ◌∙◌, ReceiptsFollowSends, go_on_to}
use Rattle.fbl_history.proofs.Sends.{follow_on}
use Rattle.fbl_history.proofs.history.History.go_on.Goals as goal

pub invariant_of-result : goal.invariant_of-result
invariant_of-result g c =
    subst ReceiptsFollowSends (sym c.in_ok-follow_trace.ensures)
    (follow_on g.B.Behaviour.next c.args.group.now c.self.inside.columns.items c.recoverable.ensures.sound c.self.invariant)

pub returns : goal.returns
returns g c = c.in_ok-follow_trace.ensures ∙ ap (λ xs. go_on_to g.B.Behaviour.next xs c.args.group.now) c.self.view_is
