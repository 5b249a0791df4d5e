use Rattle.fbl_scripts.proofs.Common.{refl}
use Rattle.fbl_scripts.proofs.reason.run_reason.Goals as goal

pub unreachable-requires : goal.unreachable-requires
unreachable-requires g c =
    let first = rw c.in-BadPlan.is at c.requires in
    let fits = rw c.config.ensures at c.in-None.ensures in
    fits c.in-BadPlan.field-0 first.0 first.1

pub returns-in-Some : goal.returns-in-Some
returns-in-Some g c = rw c.in-BadPlan.is (c.in-Some.fault, (rw c.config.ensures at c.in-Some.ensures), refl)
