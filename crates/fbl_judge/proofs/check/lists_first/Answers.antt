use Rattle.fbl_judge.proofs.Common.{ℕ, ◌≡◌, true, Option, subst}
use Rattle.std.proofs.Common.{MatchOption}
use Rattle.std.specs.FinSet as set
use Rattle.fbl_judge.specs.Candidates.{IsLeastOut}
use Rattle.fbl_judge.proofs.UnsafeLaws.{within_first}
use Rattle.fbl_judge.proofs.check.lists_first.Goals as goal

pub returns-in-None-default-clause-no : goal.returns-in-None-default-clause-no
returns-in-None-default-clause-no c is =
    let a = c.args.first in
    let b = c.args.other in
    let within = subst (λ (o : Option ℕ). MatchOption o ((q : ℕ) → set.contains a q ≡ true → set.contains b q ≡ true) (IsLeastOut a b)) c.in-None-default.is-0 c.least_in.ensures in
    within_first a b c.least_in-2.result within c.least_in-2.ensures
