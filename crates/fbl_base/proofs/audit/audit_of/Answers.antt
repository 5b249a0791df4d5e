use Rattle.std.proofs.Common.{◌∙◌, IfOk}
use Rattle.fbl_runs.proofs.Common.{subst}
use Rattle.std.proofs.lemmas.Result.{IfOk-weaker}
use Rattle.fbl_runs.specs.Logs.{RunParts, run_of_dump}
use Rattle.fbl_judge.specs.Audits.{IsAudit}
use Rattle.fbl_judge.specs.declared.audit.Audit.{Audit}
use Rattle.fbl_base.proofs.DumpRuns.{lost_same, orphans_same}
use Rattle.fbl_base.proofs.audit.audit_of.Goals as goal
use Rattle.fbl_base.proofs.audit.audit_of.Goals.{After-audit_of}

is : (c : After-audit_of) → IfOk c.audit_of.result (IsAudit (run_of_dump c.args.dump.now))
is c = subst (λ (run : RunParts). IfOk c.audit_of.result (IsAudit run)) (c.in_ok-pasts.ensures ∙ c.in_ok-run.ensures) c.audit_of.ensures

pub returns-clause-lost : goal.returns-clause-lost
returns-clause-lost c =
    let c2 = (goal.at.returns-clause-lost c).After-audit_of in
    IfOk-weaker c.audit_of.result _ _ (λ (audit : Audit) are. lost_same c.args.dump.now c2.events-events.ensures.rules audit.lost.items are.lost) (is c2)

pub returns-clause-orphans : goal.returns-clause-orphans
returns-clause-orphans c =
    let c2 = (goal.at.returns-clause-orphans c).After-audit_of in
    let strike = orphans_same c.args.dump.now c2.events-events.ensures.rules in
    IfOk-weaker c.audit_of.result _ _ (λ (audit : Audit) are q. (λ h. (strike q).0 ((are.orphans q).0 h), λ h. (are.orphans q).1 ((strike q).1 h))) (is c2)
