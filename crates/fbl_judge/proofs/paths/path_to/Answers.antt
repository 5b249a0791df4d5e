use Rattle.fbl_judge.proofs.Common.{ℕ, Option, subst, cut_of, log_of, DependsAt, StandsAt, Position}
use Rattle.std.proofs.Common.{MatchOption}
use Rattle.fbl_judge.specs.Paths.{IsDependentPlace, IsPlaceBefore, path_end}
use Rattle.fbl_judge.proofs.PathLaws.{path_back}
use Rattle.fbl_judge.proofs.Places.{position_at}
use Rattle.fbl_judge.proofs.paths.path_to.Goals as goal
use Rattle.fbl_judge.proofs.paths.path_to.Goals.{In-Some}

-- the member's first entry that depends on the receipt
first : (c : In-Some) (i : Position) → StandsAt c.args.pasts.now.entries c.args.receipt i → IsDependentPlace c.args.pasts.now i (cut_of c.args.moment.now) c.args.member c.in-Some.end
first c i stands = subst (λ (o : Option ℕ). MatchOption o (¬ (DependsAt (log_of c.args.pasts.now.entries) (cut_of c.args.moment.now) i c.args.member))
    (IsDependentPlace c.args.pasts.now i (cut_of c.args.moment.now) c.args.member)) c.in-Some.is (c.first_dependent_place.ensures i stands)

pub loop-before-init : goal.loop-before-init
loop-before-init c =
    let i = position_at c.args.pasts.now.entries c.args.receipt c.requires in
    let d = first (goal.at.loop-before-init c).In-Some i.0 i.1 in
    record {
      path = (rw (c.in_ok-push.ensures.items, c.new-path.ensures.items) path_end);
      depends = (i.0, d.0, i.1, d.1, d.3.depends);
    }

pub loop-before-preserved : goal.loop-before-preserved
loop-before-preserved c =
    let es = c.args.pasts.now.entries in
    let before = subst (λ (o : Option ℕ). IsPlaceBefore es c.args.receipt c.loop-before.place o) c.in-Some-place_before.is c.place_before.ensures in
    record {
      path = path_back es c.in-Some-place_before.before c.loop-before.place c.in-Some.end c.loop-before.path.items _ before.1 c.loop-before.invariant.path c.in_ok-push-2.ensures.items;
      depends = before.2;
    }
