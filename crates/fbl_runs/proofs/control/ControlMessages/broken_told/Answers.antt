use Rattle.fbl_runs.proofs.Common.{◌∙◌, sym, false≢true}
use Rattle.fbl_runs.proofs.control.ControlMessages.broken_told.Goals as goal

pub returns-then-not-contains : goal.returns-then-not-contains
returns-then-not-contains c n before has told = false≢true (sym c.if-not-contains.true ∙ c.contains.ensures ∙ (has.tells c.args.message).1 told)

pub returns-then-contains : goal.returns-then-contains
returns-then-contains c n before has =
    ((has.tells c.args.message).0 (sym c.contains.ensures ∙ c.if-not-contains.false), (has.tolds c.args.message).0 (sym c.contains-2.ensures ∙ c.if-contains.true))

pub returns : goal.returns
returns c n before has = (
  (has.tells c.args.message).0 (sym c.contains.ensures ∙ c.if-not-contains.false),
  λ told. false≢true (sym c.if-contains.false ∙ c.contains-2.ensures ∙ (has.tolds c.args.message).1 told),
)
