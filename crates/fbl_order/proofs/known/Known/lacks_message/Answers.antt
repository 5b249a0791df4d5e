use Rattle.fbl_order.proofs.Common.{◌≡◌, ◌∙◌, Bool, true, false, not, List, Some, None, inl, inr, refl, subst, sym, Entry, Told}
use Rattle.fbl_trace.specs.declared.trace.Determinant.{Determinant}
use Rattle.fbl_runs.specs.ControlMessages.{BreaksControl}
use Rattle.fbl_runs.specs.Entries.{log_of, named_life, receipt_in}
use Rattle.fbl_runs.specs.Rules.{BreaksLife, IsSentInLife}
use Rattle.fbl_runs.specs.declared.fault.ControlRule.TheVariants.{NotTold}
use Rattle.fbl_runs.specs.declared.fault.LifeRule.{LifeRule}
use Rattle.fbl_order.proofs.KnownLaws.{known_lives}
use Rattle.fbl_order.proofs.known.Known.lacks_message.Goals as goal

-- a receipt is no entry of a control message
no_control : (n : _) (before : List Entry) (e : Entry) (d : Determinant) → receipt_in e ≡ Some d → ¬ (BreaksControl n before e NotTold)
no_control n before (Told m) d is broken = (let none : None ≡ Some d = is in cc)
no_control n before e d is broken = broken

unsent : (b : Bool) (S : Type 0) → ((b ≡ true → S) × (S → b ≡ true)) → not b ≡ true → ¬ S
unsent true S is no' s = cc
unsent false S is no' s = (let t = is.1 s in cc)

lacking : (b : Bool) (S : Type 0) → ((b ≡ true → S) × (S → b ≡ true)) → ¬ S → not b ≡ true
lacking true S is none = absurd (none (is.0 refl))
lacking false S is none = refl

pub returns-in-Some : goal.returns-in-Some
returns-in-Some c n before knows broken =
    let k = known_lives true before c.args.self.now c.in-Lives.lives c.in-Lives.is knows in
    let e = c.args.entry.now in
    let d = c.in-Some.message in
    let here : receipt_in e ≡ Some d = sym c.in-Some.ensures in
    let Sent : Determinant → Type 0 = λ d. (x : _) × IsSentInLife (log_of before) d.from d.ssn d.to (named_life e) x in
    let says = subst (λ l. (c.is_sent.result ≡ true → (x : _) × IsSentInLife (log_of before) d.from d.ssn d.to l x) × ((x : _) × IsSentInLife (log_of before) d.from d.ssn d.to l x → c.is_sent.result ≡ true)) c.life.ensures (c.is_sent.ensures before k.1) in (
      λ no'. inl (subst (λ (r : LifeRule). BreaksLife n before e r) c.in-NotDue.is broken, (d, here, unsent c.is_sent.result (Sent d) says no')),
      λ lacks. elim lacks [
        | inl due ↦ (let same : due.1.0 ≡ d = (let s : Some due.1.0 ≡ Some d = sym due.1.1 ∙ here in cc) in
            lacking c.is_sent.result (Sent d) says (subst (λ (x : Determinant). ¬ (Sent x)) same due.1.2))
        | inr told ↦ absurd (no_control n before e d here told)
      ],
    )
