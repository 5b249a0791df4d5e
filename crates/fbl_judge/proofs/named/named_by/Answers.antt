use Rattle.fbl_judge.proofs.Common.{ℕ, inl, inr, Option, Some, None, subst, refl, Cut, DependsAt, RunParts, cut_of, log_of, run_of, StandsAt, Position}
use Rattle.std.proofs.Common.{MatchOption}
use Rattle.fbl_runs.specs.Logs.{IsRun}
use Rattle.fbl_judge.specs.Dependents.{IsLastPlace, IsLaterPlace}
use Rattle.fbl_judge.specs.Paths.{IsDependentPlace}
use Rattle.fbl_judge.specs.Unsafe.{IsNamed}
use Rattle.fbl_judge.proofs.Places.{place_within, position_at}
use Rattle.fbl_judge.proofs.Restarts.{none_later}
use Rattle.fbl_judge.proofs.named.named_by.Goals as goal
use Rattle.fbl_judge.proofs.named.named_by.Goals.{In-Some}

-- the member's first entry that depends on the receipt
first : (c : In-Some) (i : Position) → StandsAt c.args.pasts.now.entries c.args.receipt i → IsDependentPlace c.args.pasts.now i (cut_of c.args.moment.now) c.args.member c.in-Some.first
first c i stands = subst (λ (o : Option ℕ). MatchOption o (¬ (DependsAt (log_of c.args.pasts.now.entries) (cut_of c.args.moment.now) i c.args.member))
    (IsDependentPlace c.args.pasts.now i (cut_of c.args.moment.now) c.args.member)) c.in-Some.is (c.first_dependent_place.ensures i stands)

-- which restart is named, where one is later
named : (run : RunParts) (rules : IsRun run) (cut : Cut) (i : Position) (member place later : ℕ) → (d : IsDependentPlace run i cut member place) → IsLaterPlace run.entries cut d.0 (Some later)
    → (found : Option ℕ) → IsLastPlace run cut d.0 found
    → MatchOption found (¬ (DependsAt (log_of run.entries) cut i member)) (λ place. (k : Position) × StandsAt run.entries place k × IsNamed (run_of run) i member cut k)
named run rules cut i member place later d is None none = absurd (none_later run.members run rules.lawful.lawful cut d.0 none is.0 is.2)
named run rules cut i member place later d is (Some p) last = (last.0, last.1, (d.0, d.2, d.3, inr (last.2, last.3)))

pub later_restart-requires : goal.later_restart-requires
later_restart-requires c =
    let es = c.args.pasts.now.entries in
    let i = position_at es c.args.receipt c.requires in
    let d = first (goal.at.later_restart-requires c).In-Some i.0 i.1 in
    place_within es c.in-Some.first d.0 d.1

pub last_restart-requires : goal.last_restart-requires
last_restart-requires c =
    let es = c.args.pasts.now.entries in
    let i = position_at es c.args.receipt c.requires in
    let d = first (goal.at.last_restart-requires c).In-Some i.0 i.1 in
    place_within es c.in-Some.first d.0 d.1

pub returns-in-Some-later_restart : goal.returns-in-Some-later_restart
returns-in-Some-later_restart c i stands =
    let run = c.args.pasts.now in
    let d = first (goal.at.returns-in-Some-later_restart c).In-Some i stands in
    let later = subst (λ (o : Option ℕ). IsLaterPlace run.entries (cut_of c.args.moment.now) d.0 o) c.in-Some-later_restart.is (c.later_restart.ensures d.0 d.1) in
    named run c.run-run.ensures.rules (cut_of c.args.moment.now) i c.args.member c.in-Some.first _ d later c.last_restart.result (c.last_restart.ensures d.0 d.1)

pub returns-in-None : goal.returns-in-None
returns-in-None c i stands =
    let run = c.args.pasts.now in
    let d = first (goal.at.returns-in-None c).In-Some i stands in
    let before = subst (λ (o : Option ℕ). IsLaterPlace run.entries (cut_of c.args.moment.now) d.0 o) c.in-None.is (c.later_restart.ensures d.0 d.1) in
    (d.0, d.1, (d.0, d.2, d.3, inl (refl, before)))
