use Rattle.fbl_runs.proofs.Common.{Entry, subst, sym}
use Rattle.std.proofs.Common.{MatchOption}
use Rattle.fbl_runs.specs.ControlMessages.{BreaksControl, MayBeTold}
use Rattle.fbl_runs.proofs.control.ControlMessages.broken_rule.Goals as goal

pub returns-in-Told : goal.returns-in-Told
returns-in-Told c before has =
    let P : Entry → Type 0 = λ e. MatchOption c.broken_told.result (MayBeTold c.args.n before e) (BreaksControl c.args.n before e) in
    subst P (sym c.in-Told.is) (c.broken_told.ensures c.args.n before has)
