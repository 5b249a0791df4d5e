use Rattle.fbl_runs.proofs.Common.{◌≡◌, ◌≤◌, ◌∙◌, arith, ap, eqb-true, eqb-self, false≢true, length, slice_get, slice_get_within, Some, sym}
use Rattle.std.proofs.Common.{eqb, nat_eq}
use Rattle.std.proofs.lemmas.Bool.{ltb-false}
use Rattle.fbl_runs.specs.declared.lives.Life.{Life}
use Rattle.fbl_runs.proofs.Listing.{read}
use Rattle.fbl_runs.proofs.lives.Lives.is_life.Goals as goal
use Rattle.fbl_runs.proofs.lives.Lives.is_life.Goals.{In-Some}

at_item : (c : In-Some) → slice_get c.args.self.now.lives.items c.args.number ≡ Some c.in-Some.other.now
at_item c = (let found = c.in-Some.ensures.lookup in read c.args.self.now.lives.items c.deref.result.now c.args.number c.in-Some.other.now c.deref.ensures.value found.3.0 found.1)

is_item : (c : In-Some) (l : Life) → slice_get c.args.self.now.lives.items c.args.number ≡ Some l → l ≡ c.in-Some.other.now
is_item c l here = (let some : Some l ≡ Some c.in-Some.other.now = sym here ∙ at_item c in cc)

pub returns-then-eq : goal.returns-then-eq
returns-then-eq c = (
  λ yes. (
    c.in-Some.other.now,
    at_item (goal.at.returns-then-eq c).In-Some,
    eqb-true c.in-Some.other.now.member c.args.member (sym c.eq.ensures ∙ c.if-eq.true),
    eqb-true c.in-Some.other.now.life c.args.life yes,
  ),
  λ is. ap (λ k. nat_eq k c.args.life) (ap (λ (l : Life). l.life) (sym (is_item (goal.at.returns-then-eq c).In-Some is.0 is.1)) ∙ is.3) ∙ eqb-self c.args.life,
)

pub returns-else-eq : goal.returns-else-eq
returns-else-eq c = (
  λ yes. absurd (false≢true (sym c.if-eq.false ∙ yes)),
  λ is. c.eq.ensures ∙ ap (λ m. eqb m c.args.member) (ap (λ (l : Life). l.member) (sym (is_item (goal.at.returns-else-eq c).In-Some is.0 is.1)) ∙ is.2) ∙ eqb-self c.args.member,
)

pub returns-in-None : goal.returns-in-None
returns-in-None c = (
  λ no. absurd (false≢true no),
  λ is. absurd (
      let within = slice_get_within c.args.self.now.lives.items c.args.number is.0 is.1 in
      let past : length c.deref.result.now ≤ c.args.number = ltb-false c.args.number (length c.deref.result.now) (sym c.in-None.ensures.lookup.0) in
      let same = ap length c.deref.ensures.value in
      omega (arith, within, past, same)),
)
