use Rattle.fbl_judge.proofs.Common.{arith, ℕ, ◌≡◌, ◌↔◌, true, subst, refl, log_of, nat_tests, slice_get_within, Cut, Stands, last_cut}
use Rattle.std.specs.FinSet as set
use Rattle.fbl_runs.specs.Clocks.{cut_of}
use Rattle.fbl_runs.specs.Logs.{run_of}
use Rattle.fbl_judge.specs.Unsafe.{IsLeastStrike, IsLeftOrphanAt, IsUnsafeAt}
use Rattle.fbl_trace.proofs.Sets.{some_member}
use Rattle.fbl_judge.proofs.DependLaws.{receipt_at}
use Rattle.fbl_judge.proofs.UnsafeLaws.{nobody_left, safe_at}
use Rattle.fbl_judge.proofs.check.unsafe_at_end.Goals as goal
use Rattle.fbl_judge.proofs.check.unsafe_at_end.Goals.{After-last-end}

end : (c : After-last-end) → cut_of c.last-end.result ≡ last_cut (log_of c.args.pasts.now.entries)
end c = λ i q. c.last-end.ensures q i

pub returns-in_err-strike : goal.returns-in_err-strike
returns-in_err-strike c i stands =
    let run = c.args.pasts.now in
    let d = c.args.determinant.now in
    rw c.from_residual.ensures (subst (λ (cut : Cut). ¬ (IsUnsafeAt (run_of run) cut i)) (end (goal.at.returns-in_err-strike c).After-last-end)
    (safe_at run c.requires.run.lawful c.requires.run.strike i d (receipt_at run.entries c.args.place d i c.requires.receipt stands) (cut_of c.last-end.result) c.in_err-strike.ensures))

pub orphans_at-orphans-requires-clause-place : goal.orphans_at-orphans-requires-clause-place
orphans_at-orphans-requires-clause-place c = slice_get_within c.args.pasts.now.entries c.args.place c.requires.receipt.0 c.requires.receipt.1

pub returns-then-is_empty : goal.returns-then-is_empty
returns-then-is_empty c i stands =
    let run = c.args.pasts.now in
    let d = c.args.determinant.now in
    subst (λ (cut : Cut). ¬ (IsUnsafeAt (run_of run) cut i)) (end (goal.at.returns-then-is_empty c).After-last-end)
    (nobody_left run c.requires.run.lawful c.requires.run.strike i d (receipt_at run.entries c.args.place d i c.requires.receipt stands) (cut_of c.last-end.result) c.in_ok-strike.strike c.orphans_at-orphans.result
    c.in_ok-strike.ensures (c.orphans_at-orphans.ensures i stands) (grind (arith, nat_tests, c.is_empty.ensures, c.if-is_empty.true)))

pub returns : goal.returns
returns c i stands =
    let run = run_of c.args.pasts.now in
    let d = c.args.determinant.now in
    let strike = c.in_ok-strike.strike in
    let orphans = c.orphans_at-orphans.result in
    let there : c.stands.result ≡ true = grind (arith, nat_tests, c.if-not-stands.false) in
    let at_end = end (goal.at.returns c).After-last-end in (
      refl,
      refl,
      record {
        place = refl;
        determinant = refl;
        moment = at_end;
        stands = subst (λ (cut : Cut). Stands (log_of c.args.pasts.now.entries) cut i) at_end ((c.stands.ensures i stands).0 there);
        strike = subst (λ (cut : Cut). IsLeastStrike run cut d strike) at_end c.in_ok-strike.ensures;
        orphans = subst (λ (cut : Cut). (q : ℕ) → (set.contains orphans q ≡ true) ↔ IsLeftOrphanAt run cut strike i q) at_end (c.orphans_at-orphans.ensures i stands);
        some = some_member orphans (grind (arith, nat_tests, c.is_empty.ensures, c.if-is_empty.false));
      },
    )
