use Rattle.fbl_runs.proofs.Common.{◌≡◌, ◌∙◌, ◌↔◌, true, sym, subst, Entry}
use Rattle.fbl_runs.specs.ControlMessages.{IsHeard}
use Rattle.fbl_runs.proofs.control.ControlMessages.is_heard.Goals as goal

pub returns-in-Told : goal.returns-in-Told
returns-in-Told c before has =
    let P : Entry → Type 0 = λ e. (c.contains.result ≡ true) ↔ IsHeard before e in
    subst P (sym c.in-Told.is) (λ h. (has.tells c.in-Told.message).0 (sym c.contains.ensures ∙ h), λ told. c.contains.ensures ∙ (has.tells c.in-Told.message).1 told)
