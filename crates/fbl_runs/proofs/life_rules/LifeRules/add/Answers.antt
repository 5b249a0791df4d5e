use Rattle.fbl_runs.proofs.Common.{◌∙◌, arith, sym}
use Rattle.fbl_runs.proofs.FewLaws.{marks_more, marks_same}
use Rattle.fbl_runs.proofs.RunLaws.{lawful_next}
use Rattle.fbl_runs.proofs.life_rules.LifeRules.add.Goals as goal

pub returns-then-is_some : goal.returns-then-is_some
returns-then-is_some c n before has may place =
    let e = c.args.entry.now in
    let more = marks_more before e c.event.result c.event.ensures (sym c.is_some.ensures ∙ c.if-is_some.true) in
    let few = (may.0 more.0.0 more.0.1).0 in
    let one = more.1 in
    let sum = c.saturating_add-self.ensures in
    record {
      lived = c.in_ok-add.ensures.lived n before has.lived (lawful_next n before e may) place;
      told = c.in_ok-add-2.ensures before has.told;
      count = omega (arith, sum, one, has.count, few);
      few = omega (arith, sum, has.count, few);
    }

pub returns-else-is_some : goal.returns-else-is_some
returns-else-is_some c n before has may place =
    let e = c.args.entry.now in
    record {
      lived = c.in_ok-add.ensures.lived n before has.lived (lawful_next n before e may) place;
      told = c.in_ok-add-2.ensures before has.told;
      count = has.count ∙ sym (marks_same before e c.event.result c.event.ensures (sym c.is_some.ensures ∙ c.if-is_some.false));
      few = has.few;
    }
