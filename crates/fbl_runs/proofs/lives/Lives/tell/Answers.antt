use Rattle.fbl_runs.proofs.Common.{ℕ, Option, ◌∙◌, subst, sym}
use Rattle.fbl_runs.specs.KnownLives.{IsTellPlace}
use Rattle.fbl_runs.proofs.lives.Lives.tell.Goals as goal

pub returns : goal.returns
returns c before has = subst (λ (o : Option ℕ). IsTellPlace before c.args.message.now o) (sym (c.copied.ensures ∙ c.get.ensures.value)) (has.tells c.args.message.now)
