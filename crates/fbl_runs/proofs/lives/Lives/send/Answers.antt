use Rattle.fbl_runs.proofs.Common.{ℕ, ◌≡◌, ◌≢◌, ◌≤◌, ◌∙◌, arith, ap, eqb-true, false≢true, length, None, Option, slice_get, Some, subst, sym}
use Rattle.std.proofs.Common.{MatchOption, eqb}
use Rattle.std.proofs.lemmas.Bool.{ltb-false}
use Rattle.fbl_trace.proofs.RulesLaws.{eqb-self}
use Rattle.fbl_runs.specs.KnownLives.{sent_to}
use Rattle.fbl_runs.proofs.Listing.{read}
use Rattle.fbl_runs.proofs.KnownLaws.{no_zero, none_past, sent_elsewhere, sent_life, sent_there, sent_to_one}
use Rattle.fbl_runs.proofs.lives.Lives.send.Goals as goal
use Rattle.fbl_runs.proofs.lives.Lives.send.Goals.{In_ok-life, In_ok-send}

none_is : (o : Option ℕ) (P : Type 0) (Q : ℕ → Type 0) → o ≡ None → P → MatchOption o P Q
none_is o P Q none p = subst (λ (o : Option ℕ). MatchOption o P Q) (sym none) p

-- the life with the number is the one that was found
same_life : (c : In_ok-life) → c.in_ok-life_number.ensures.0 ≡ c.in_ok-life.life.now
same_life c =
    let found = c.in_ok-life.ensures.lookup in
    let at_life = read c.args.self.now.lives.items c.deref.result.now c.in_ok-life_number.field-0 c.in_ok-life.life.now c.deref.ensures.value found.3.0 found.1 in
    let some : Some c.in_ok-life_number.ensures.0 ≡ Some c.in_ok-life.life.now = sym c.in_ok-life_number.ensures.1 ∙ at_life in
    cc

-- and the send is one of its sends
at_send : (c : In_ok-send) → c.in_ok-life_number.ensures.0 ≡ c.in_ok-life.life.now
    → slice_get c.in_ok-life_number.ensures.0.sends.items c.in_ok-checked_sub.field-0 ≡ Some c.in_ok-send.send.now
at_send c same =
    let found = c.in_ok-send.ensures.lookup in
    read c.in_ok-life_number.ensures.0.sends.items c.deref-2.result.now c.in_ok-checked_sub.field-0 c.in_ok-send.send.now
    (c.deref-2.ensures.value ∙ ap (λ l. l.sends.items) (sym same)) found.3.0 found.1

pub returns-in_err-life_number : goal.returns-in_err-life_number
returns-in_err-life_number c before has =
    none_is c.from_residual.result _ _ c.from_residual.ensures (λ k sent. (let found = sent_life before c.args.self.now has c.args.from c.args.ssn c.args.to c.args.life k sent in c.in_err-life_number.ensures found.0 found.1))

pub returns-in_err-checked_sub : goal.returns-in_err-checked_sub
returns-in_err-checked_sub c before has =
    let l = c.in_ok-life_number.ensures in
    none_is c.from_residual-in_err-checked_sub.result _ _ c.from_residual-in_err-checked_sub.ensures
    (no_zero before c.args.self.now has c.in_ok-life_number.field-0 c.args.from c.args.life l.0 l.1 l.2 l.3 c.args.ssn c.args.to c.in_err-checked_sub.ensures)

pub returns-in_err-send : goal.returns-in_err-send
returns-in_err-send c before has =
    let l = c.in_ok-life_number.ensures in
    let same = same_life (goal.at.returns-in_err-send c).In_ok-life in
    let size : length c.deref-2.result.now ≡ length l.0.sends.items = ap length c.deref-2.ensures.value ∙ ap (λ l. length l.sends.items) (sym same) in
    let past : length c.deref-2.result.now ≤ c.in_ok-checked_sub.field-0 = ltb-false c.in_ok-checked_sub.field-0 (length c.deref-2.result.now) (sym c.in_err-send.ensures.lookup.0) in
    none_is c.from_residual-in_err-send.result _ _ c.from_residual-in_err-send.ensures
    (none_past before c.args.self.now has c.in_ok-life_number.field-0 c.args.from c.args.life l.0 l.1 l.2 l.3 c.args.ssn c.args.to (let n = c.in_ok-checked_sub.ensures.1 in omega (arith, size, past, n)))

pub returns-in_err-receiver : goal.returns-in_err-receiver
returns-in_err-receiver c before has =
    let l = c.in_ok-life_number.ensures in
    let ev = c.in_ok-send.send.now in
    let at_ev = at_send (goal.at.returns-in_err-receiver c).In_ok-send (same_life (goal.at.returns-in_err-receiver c).In_ok-life) in
    absurd (sent_to_one before c.args.self.now has c.in_ok-life_number.field-0 c.args.from c.args.life l.0 l.1 l.2 l.3 c.in_ok-checked_sub.field-0 ev at_ev (sym c.in_err-receiver.ensures))

pub returns-then-eq : goal.returns-then-eq
returns-then-eq c before has =
    let l = c.in_ok-life_number.ensures in
    let ev = c.in_ok-send.send.now in
    let at_ev = at_send (goal.at.returns-then-eq c).In_ok-send (same_life (goal.at.returns-then-eq c).In_ok-life) in
    let to : c.in_ok-receiver.field-0 ≡ c.args.to = eqb-true c.in_ok-receiver.field-0 c.args.to (sym c.eq.ensures ∙ c.if-eq.true) in
    sent_there before c.args.self.now has c.in_ok-life_number.field-0 c.args.from c.args.life l.0 l.1 l.2 l.3 c.args.ssn c.args.to ev c.in_ok-checked_sub.ensures.0
    (ap (slice_get l.0.sends.items) (sym c.in_ok-checked_sub.ensures.1) ∙ at_ev) (ap Some (sym to) ∙ c.in_ok-receiver.ensures)

pub returns-else-eq : goal.returns-else-eq
returns-else-eq c before has =
    let l = c.in_ok-life_number.ensures in
    let ev = c.in_ok-send.send.now in
    let at_ev = at_send (goal.at.returns-else-eq c).In_ok-send (same_life (goal.at.returns-else-eq c).In_ok-life) in
    let receiver = c.in_ok-receiver.field-0 in
    let apart : sent_to ev.entry ≢ Some c.args.to = λ is. (
    let equal : receiver ≡ c.args.to = (let some : Some receiver ≡ Some c.args.to = c.in_ok-receiver.ensures ∙ is in cc) in
    false≢true (sym c.if-eq.false ∙ c.eq.ensures ∙ ap (eqb receiver) (sym equal) ∙ eqb-self receiver)) in
    sent_elsewhere before c.args.self.now has c.in_ok-life_number.field-0 c.args.from c.args.life l.0 l.1 l.2 l.3 c.args.ssn c.args.to ev
    (ap (slice_get l.0.sends.items) (sym c.in_ok-checked_sub.ensures.1) ∙ at_ev) apart
