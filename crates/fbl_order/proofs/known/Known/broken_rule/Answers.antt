use Rattle.fbl_order.proofs.Common.{Bool, subst, sym}
use Rattle.fbl_order.specs.Known.{Breaks, MayCome}
use Rattle.fbl_order.specs.declared.known.BrokenRule.TheVariants.{Life}
use Rattle.fbl_runs.proofs.RuleLaws.{breaks_life}
use Rattle.fbl_order.proofs.KnownLaws.{known_lives}
use Rattle.fbl_order.proofs.known.Known.broken_rule.Goals as goal

pub returns-in_ok-broken_rule-in-Lives : goal.returns-in_ok-broken_rule-in-Lives
returns-in_ok-broken_rule-in-Lives c lived before knows =
    let k = known_lives lived before c.args.self.now c.in-Lives.lives c.in-Lives.is knows in
    let rule = c.in_ok-broken_rule-in-Lives.field-0 in
    let e = c.args.entry.now in
    let P : Bool → Type 0 = λ l. Breaks l c.args.n before e (Life rule) × ¬ (MayCome l c.args.n before e) in
    subst P (sym k.0) (let broken = c.in_ok-broken_rule-in-Lives.ensures before k.1 in (broken, breaks_life c.args.n before e rule broken))
