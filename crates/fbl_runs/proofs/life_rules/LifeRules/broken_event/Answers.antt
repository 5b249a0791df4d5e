use Rattle.fbl_runs.proofs.Common.{◌==◌, ◌∙◌, arith, sym, ap, eqb-self, false≢true}
use Rattle.fbl_runs.proofs.FewLaws.{next_few}
use Rattle.fbl_runs.proofs.life_rules.LifeRules.broken_event.Goals as goal

pub returns-then-number-next : goal.returns-then-number-next
returns-then-number-next c before has =
    let below = c.if-self.false in
    let few = has.count in
    let next = c.next_number-next.ensures before has.lived (omega (arith, few, below)) in
    let bound = next_few before c.args.event.now in
    let small = c.small.ensures (omega (arith, next, bound, few, below)) in
    let source = c.source-from.ensures in
    let destination = c.destination-to.ensures in
    let number = c.number.ensures in (
      omega (arith, few, below),
      (
        omega (arith, c.in_default.ensures.0, source),
        omega (arith, c.in_default.ensures.1, destination),
        λ same. false≢true (c.if-eq.ensures ∙ ap (λ m. m == c.destination-to.result) (source ∙ same ∙ sym destination) ∙ eqb-self c.destination-to.result),
      ),
      small ∙ next,
      λ same. omega (arith, same, small, number, c.if-number-next.true),
    )
