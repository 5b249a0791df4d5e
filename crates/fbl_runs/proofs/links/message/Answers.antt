use Rattle.fbl_runs.proofs.Common.{ℕ, ◌≡◌, ◌≤◌, ◌∙◌, arith, at, Determinant, Entry, Event, length, List, log_of, named_life, None, Option, receipt_in, Send, slice_get_within, Some, subst, sym}
use Rattle.std.proofs.Common.{MatchOption}
use Rattle.fbl_runs.specs.Clocks.{StandsAt}
use Rattle.fbl_runs.specs.Rules.{IsSentInLife}
use Rattle.fbl_runs.proofs.links.message.Goals as goal

-- the place of a message
abbrev IsFound : List Entry → Determinant → ℕ → Option ℕ → Type 0
IsFound before d life o =
    MatchOption o ((k : ℕ) → ¬ (IsSentInLife (log_of before) d.from d.ssn d.to life k)) (λ place. (k : ℕ) × IsSentInLife (log_of before) d.from d.ssn d.to life k × StandsAt before place (at d.from k))

found : (before : List Entry) (d : Determinant) (life k : ℕ) (o : Option ℕ) → IsSentInLife (log_of before) d.from d.ssn d.to life k
    → MatchOption o (length (log_of before d.from) ≤ k) (λ p. StandsAt before p (at d.from k)) → IsFound before d life o
found before d life k None sent past = absurd (let w = slice_get_within (log_of before d.from) k (Event (Send d.from d.ssn d.to)) sent.0 in omega (arith, w, past))
found before d life k (Some p) sent stands = (k, sent, stands)

same_receipt : (e : Entry) (a b : Determinant) → Some a ≡ receipt_in e → receipt_in e ≡ Some b → a ≡ b
same_receipt e a b one other = (let some : Some a ≡ Some b = one ∙ other in cc)

pub returns-in_err-send-in_default : goal.returns-in_err-send-in_default
returns-in_err-send-in_default c = record {
  told = λ before m has is. absurd (c.in_default.not-Told m is);
  taken = λ before d has is. (
      let receipt = c.in_ok-receipt-in_default.receipt in
      let same = same_receipt c.args.entry.now receipt d c.in_ok-receipt-in_default.ensures is in
      let P : Determinant → ℕ → Type 0 = λ d life. IsFound before d life None in
      let none : P receipt c.life.result = c.in_err-send-in_default.ensures before has in
      let here : P d (named_life c.args.entry.now) = subst (λ (d : Determinant). P d (named_life c.args.entry.now)) same (subst (P receipt) c.life.ensures none) in
      subst (IsFound before d (named_life c.args.entry.now)) (sym c.from_residual-in_err-send-in_default.ensures) here);
  other = λ untold none. absurd (let wrong : Some c.in_ok-receipt-in_default.receipt ≡ None = c.in_ok-receipt-in_default.ensures ∙ none in cc);
}

pub returns-in_ok-send-in_default : goal.returns-in_ok-send-in_default
returns-in_ok-send-in_default c = record {
  told = λ before m has is. absurd (c.in_default.not-Told m is);
  taken = λ before d has is. (
      let receipt = c.in_ok-receipt-in_default.receipt in
      let same = same_receipt c.args.entry.now receipt d c.in_ok-receipt-in_default.ensures is in
      let P : Determinant → ℕ → Type 0 = λ d life. IsFound before d life c.place.result in
      let some : P receipt c.life.result = found before receipt c.life.result c.in_ok-send-in_default.send c.place.result (c.in_ok-send-in_default.ensures before has) (c.place.ensures before has) in
      subst (λ (d : Determinant). P d (named_life c.args.entry.now)) same (subst (P receipt) c.life.ensures some));
  other = λ untold none. absurd (let wrong : Some c.in_ok-receipt-in_default.receipt ≡ None = c.in_ok-receipt-in_default.ensures ∙ none in cc);
}
