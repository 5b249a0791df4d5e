use Rattle.fbl_runs.proofs.Common.{◌≡◌, sym, subst}
use Rattle.fbl_runs.specs.Logs.{IsRun, run_of_dump}
use Rattle.fbl_runs.proofs.RunLaws.{is_run}
use Rattle.fbl_runs.proofs.run.Run.of_dump.Goals as goal

pub invariant_of-result : goal.invariant_of-result
invariant_of-result c =
    let entries : c.in_ok-entries_of.field-0.items ≡ (run_of_dump c.args.dump.now).entries = (rw (c.events.ensures.events, c.held.ensures) at c.in_ok-entries_of.ensures) in
    subst IsRun (λ i. record (run_of_dump c.args.dump.now) { members = sym c.members.ensures i; f = sym c.f.ensures i; entries = sym entries i; strike = sym c.strike.ensures i })
    (is_run c.args.dump.now c.events.ensures.rules)
