use Rattle.fbl_threads.proofs.Common.{arith, ap, sym, ◌∙◌}
use Rattle.std.specs.FinSet as set
use Rattle.fbl_threads.proofs.drains.refusal.Goals as goal

pub returns-in-Some : goal.returns-in-Some
returns-in-Some g c = ((omega (arith, c.if-workers-lt1.false), omega (arith, c.if-workers-gt8.false)), rw c.config.ensures at c.in-Some.ensures)

pub returns-then-count-ne0 : goal.returns-then-count-ne0
returns-then-count-ne0 g c = (
  (omega (arith, c.if-workers-lt1.false), omega (arith, c.if-workers-gt8.false)),
  rw c.config.ensures at c.in_default.ensures,
  λ none. c.if-count-ne0.true (c.count.ensures ∙ ap set.len c.down.ensures.down ∙ none),
)

pub returns : goal.returns
returns g c = record {
  workers_allowed = (omega (arith, c.if-workers-lt1.false), omega (arith, c.if-workers-gt8.false));
  plan_fits = rw c.config.ensures at c.in_default.ensures;
  nobody_down = ap set.len (sym c.down.ensures.down) ∙ sym c.count.ensures ∙ c.if-count-ne0.false;
}
