use Rattle.fbl_runs.proofs.Common.{◌≡◌, ◌∙◌, false, sym, false≢true, Option, Some, None}
use Rattle.std.proofs.Common.{MatchOption}
use Rattle.std.specs.Option.{is_some}
use Rattle.fbl_runs.specs.declared.fault.ControlRule.{ControlRule}
use Rattle.fbl_runs.proofs.control.ControlMessages.broken_tell.Goals as goal

-- no end breaks a rule
fine : (P : Type 0) (Q : ControlRule → Type 0) (o : Option ControlRule) → MatchOption o P Q → is_some o ≡ false → P
fine P Q None holds none = holds
fine P Q (Some rule) holds none = absurd cc

pub returns-then-contains : goal.returns-then-contains
returns-then-contains c before has = (
  fine _ _ c.broken_end-broken.result (c.broken_end-broken.ensures before) (sym c.is_some.ensures ∙ c.if-is_some.false),
  (has.tells c.args.message).0 (sym c.contains.ensures ∙ c.if-contains.true),
)

pub returns : goal.returns
returns c before has = (
  fine _ _ c.broken_end-broken.result (c.broken_end-broken.ensures before) (sym c.is_some.ensures ∙ c.if-is_some.false),
  λ told. false≢true (sym c.if-contains.false ∙ c.contains.ensures ∙ (has.tells c.args.message).1 told),
)
