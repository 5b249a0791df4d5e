use Rattle.fbl_verdicts.proofs.Common.{ℕ, ◌-◌, ◌+◌, ◌∙◌, List, arith, sym, subst, false≢true}
use Rattle.std.proofs.Common.{◌/◌}
use Rattle.fbl_runs.specs.declared.entry.Entry.{Entry}
use Rattle.fbl_runs.specs.Clocks.{StandsAt}
use Rattle.fbl_runs.specs.Entries.{log_of}
use Rattle.fbl_runs.specs.HappenedBefore.{at}
use Rattle.fbl_verdicts.proofs.UndoneLaws.{happened_later}
use Rattle.fbl_verdicts.proofs.undone_text.count_beside.Goals as goal
use Rattle.fbl_verdicts.proofs.undone_text.count_beside.Goals.{After-place-other}

abbrev middle : After-place-other → ℕ
middle c = c.loop-first.first + (c.loop-first.end - c.loop-first.first) / 2

there : (c : After-place-other) → StandsAt c.args.pasts.now.entries c.place-other.result (at c.args.member (middle c))
there c = subst (λ (es : List Entry). StandsAt es c.place-other.result (at c.args.member (middle c))) c.index.ensures c.place-other.ensures

pub loop-first-preserved-then-precedes : goal.loop-first-preserved-then-precedes
loop-first-preserved-then-precedes c =
    let es = c.args.pasts.now.entries in
    let less = c.loop-first-test.true in
    let end = c.loop-first.invariant.within in
    record {
      order = omega (arith, less);
      within = omega (arith, less, end);
      beside = c.loop-first.invariant.beside;
      after = λ r k at_r past below. (
          let other = (goal.at.loop-first-preserved-then-precedes c).After-place-other in
          happened_later (log_of es) r c.args.member (middle other) k past below ((c.precedes.ensures r (at c.args.member (middle other)) at_r (there other)).0 c.if-precedes.true));
    }

pub loop-first-preserved : goal.loop-first-preserved
loop-first-preserved c =
    let es = c.args.pasts.now.entries in
    let less = c.loop-first-test.true in
    let end = c.loop-first.invariant.within in
    record {
      order = omega (arith, less);
      within = c.loop-first.invariant.within;
      beside = λ r k at_r below path. (
          let other = (goal.at.loop-first-preserved c).After-place-other in
          let later = happened_later (log_of es) r c.args.member k (middle other) (omega (arith, below)) (omega (arith, less, end)) path in
          false≢true (sym c.if-precedes.false ∙ (c.precedes.ensures r (at c.args.member (middle other)) at_r (there other)).1 later));
      after = c.loop-first.invariant.after;
    }
