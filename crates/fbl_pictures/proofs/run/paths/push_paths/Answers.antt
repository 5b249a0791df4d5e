use Rattle.fbl_pictures.proofs.Common.{ℕ, ◌≡◌, ◌++◌, ◌+◌, ◌-◌, [], append_assoc, append-nil, arith, refl, subst, suc, AreStepsTo}
use Rattle.fbl_pictures.proofs.run.paths.push_paths.Goals as goal

pub loop-number-init : goal.loop-number-init
loop-number-init c rest are =
    let all : c.args.members - 0 ≡ c.args.members = omega arith in
    (rest, (rw all at are), refl)

pub loop-number-preserved : goal.loop-number-preserved
loop-number-preserved c rest are =
    let n = c.loop-number.number in
    let more : c.args.members - n ≡ suc (c.args.members - (n + 1)) = omega arith in
    let pushed = c.in_ok-push_path_to.ensures in
    let to = subst (λ (m : ℕ). AreStepsTo c.args.pasts.now c.args.window.now c.args.finding.now m pushed.0) c.at.ensures pushed.1 in
    let found = c.loop-number.invariant (pushed.0 ++ rest) (rw more (pushed.0, to, rest, are, refl)) in
    (found.0, found.1, rw (pushed.2, append_assoc) found.2)

pub returns : goal.returns
returns c =
    let none : c.args.members - c.loop-number.number ≡ 0 = omega arith in
    let found = c.loop-number.invariant [] (rw none refl) in
    (found.0, found.1, (rw append-nil at found.2))
