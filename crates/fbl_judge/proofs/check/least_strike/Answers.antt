use Rattle.fbl_judge.proofs.Common.{arith, sym, refl, ◌∙◌, ◌≡◌, false≢true, AreStruckOrHold, bound}
use Rattle.fbl_runs.specs.Clocks.{cut_of}
use Rattle.fbl_runs.specs.Logs.{run_of}
use Rattle.fbl_judge.proofs.UnsafeLaws.{struck_or_held, too_many_struck}
use Rattle.fbl_judge.proofs.check.least_strike.Goals as goal
use Rattle.fbl_judge.proofs.check.least_strike.Goals.{After-count}

least : (c : After-count) → AreStruckOrHold (run_of c.args.pasts.now) (cut_of c.args.moment.now) c.args.determinant.now c.union-strike.result
least c =
    struck_or_held (run_of c.args.pasts.now) (cut_of c.args.moment.now) c.args.determinant.now c.union-strike.result c.recorded_at-recorded.result.holders (rw (c.strike.ensures, c.run-run.ensures.run) at c.union-strike.ensures) c.recorded_at-recorded.ensures.holders

pub returns-then-count-most : goal.returns-then-count-most
returns-then-count-most c =
    let most : c.max-most.result ≡ bound (run_of c.args.pasts.now) = rw (c.max-most.ensures, c.from.ensures, c.f.ensures, c.count.ensures, c.strike-2.ensures, c.run-run.ensures.run) refl in
    too_many_struck (run_of c.args.pasts.now) (cut_of c.args.moment.now) c.args.determinant.now c.union-strike.result (least (goal.at.returns-then-count-most c).After-count)
    (let n = c.count-2.ensures in let t = c.if-count-most.true in omega (arith, most, n, t))

pub returns : goal.returns
returns c =
    let most : c.max-most.result ≡ bound (run_of c.args.pasts.now) = rw (c.max-most.ensures, c.from.ensures, c.f.ensures, c.count.ensures, c.strike-2.ensures, c.run-run.ensures.run) refl in
    record {
      unstored = λ s. false≢true (sym c.if-recorded.false ∙ c.recorded_at-recorded.ensures.stored.1 s);
      least = least (goal.at.returns c).After-count;
      few = (let n = c.count-2.ensures in let t = c.if-count-most.false in omega (arith, most, n, t));
    }
