use Rattle.fbl_runs.proofs.Common.{ℕ, true, false, ◌≡◌, ◌∙◌, arith, cases_lt, false≢true, inl, inr, log_of, None, Option, refl, Some, subst, sym}
use Rattle.std.proofs.Common.{MatchOption}
use Rattle.std.specs.Option.{is_some}
use Rattle.fbl_runs.specs.Rules.{IsSentInLife, IsTaken}
use Rattle.fbl_runs.proofs.DueLaws.{due_iff, not_due, one_sent}
use Rattle.fbl_runs.proofs.life_rules.is_due.Goals as goal

some_found : (o : Option ℕ) (P : Type 0) (Q : ℕ → Type 0) → is_some o ≡ true → MatchOption o P Q → (k : ℕ) × Q k
some_found None P Q is found = absurd (false≢true is)
some_found (Some k) P Q is found = (k, found)

none_found : (o : Option ℕ) (P : Type 0) (Q : ℕ → Type 0) → is_some o ≡ false → MatchOption o P Q → P
none_found None P Q is found = found
none_found (Some k) P Q is found = absurd (false≢true (sym is))

pub returns-then-is_taken : goal.returns-then-is_taken
returns-then-is_taken c before has =
    let logs = log_of before in
    let send = c.in-Some.send in
    let sent : IsSentInLife logs c.args.from c.args.ssn c.args.to c.args.life send = c.in-Some.ensures before has in
    let taken : IsTaken logs c.args.from c.args.to send = (c.is_taken.ensures before has sent.0).0 c.if-is_taken.true in (
      λ no'. absurd (false≢true no'),
      λ due.
          let same : due.send ≡ send = one_sent before c.args.lives.now has c.args.from c.args.ssn c.args.to c.args.life due.send send due.sent sent in
          absurd (due.untaken (subst (λ (k : ℕ). IsTaken logs c.args.from c.args.to k) (sym same) taken)),
    )

pub returns-then-is_some : goal.returns-then-is_some
returns-then-is_some c before has =
    let found = some_found c.send-in-loop-number.result _ _ (sym c.is_some.ensures ∙ c.if-is_some.true) (c.send-in-loop-number.ensures before has) in (
      λ no'. absurd (false≢true no'),
      λ due. absurd (not_due (log_of before) c.args.from c.args.ssn c.args.to c.args.life c.first_unreached-end.result c.loop-number.number found.0
          (c.first_unreached-end.ensures before has) c.loop-number.auto.number c.loop-number-test.true found.1 due),
    )

pub loop-number-preserved : goal.loop-number-preserved
loop-number-preserved c before has number late below k sent = elim (cases_lt number c.loop-number.number) [
  | inl early ↦ c.loop-number.invariant before has number late early k sent
  | inr past ↦
      let same : number ≡ c.loop-number.number = omega (arith, past, below) in
      none_found c.send-in-loop-number.result _ _ (sym c.is_some.ensures ∙ c.if-is_some.false) (c.send-in-loop-number.ensures before has) k
      (subst (λ (n : ℕ). IsSentInLife (log_of before) c.args.from n c.args.to c.args.life k) same sent)
]

pub returns : goal.returns
returns c before has =
    let logs = log_of before in
    let send = c.in-Some.send in
    let sent : IsSentInLife logs c.args.from c.args.ssn c.args.to c.args.life send = c.in-Some.ensures before has in (
      λ _. due_iff logs c.args.from c.args.ssn c.args.to c.args.life send c.first_unreached-end.result sent
          (λ taken. false≢true (sym c.if-is_taken.false ∙ (c.is_taken.ensures before has sent.0).1 taken))
          (c.first_unreached-end.ensures before has)
          (λ number late below. c.loop-number.invariant before has number late (let end = c.loop-number-test.false in omega (arith, below, end))),
      λ _. refl,
    )
