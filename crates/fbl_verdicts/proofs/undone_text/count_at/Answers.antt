use Rattle.fbl_verdicts.proofs.Common.{ℕ, ◌≡◌, ◌==◌, ◌∙◌, inl, inr, List, length, arith, ap, sym, false≢true, eqb-true}
use Rattle.fbl_trace.proofs.RulesLaws.{eqb-self}
use Rattle.fbl_runs.specs.Clocks.{StandsAt}
use Rattle.fbl_runs.specs.declared.entry.Entry.{Entry}
use Rattle.fbl_runs.specs.Entries.{log_of}
use Rattle.fbl_runs.specs.HappenedBefore.{Position}
use Rattle.fbl_judge.proofs.Places.{member_is, number_within, position_at, read_at}
use Rattle.fbl_verdicts.proofs.undone_text.count_at.Goals as goal
use Rattle.fbl_verdicts.proofs.undone_text.count_at.Goals.{After-eq}

-- the member that restarts
own : (c : After-eq) (r : Position) → StandsAt c.args.pasts.now.entries c.args.restart r → c.member.result ≡ r.member
own c r at_r =
    let es = c.args.pasts.now.entries in
    c.member.ensures ∙ member_is es c.args.restart c.index-entries-restart.result r (read_at es c.entries.result.now c.args.restart c.index-entries-restart.result c.entries.ensures.entries c.requires c.index-entries-restart.is) at_r

pub overflow_add-result : goal.overflow_add-result
overflow_add-result c =
    let es = c.args.pasts.now.entries in
    let r = position_at es c.args.restart c.requires in
    let member = sym (own (goal.at.overflow_add-result c).After-eq r.0 r.1) ∙ eqb-true c.member.result c.args.member (sym c.eq.ensures ∙ c.if-eq.true) in
    let count : c.count-count.result ≡ length (log_of es r.0.member) = c.count-count.ensures ∙ ap (λ (es : List Entry). length (log_of es c.args.member)) c.index.ensures ∙ ap (λ (m : ℕ). length (log_of es m)) (sym member) in
    let number = c.number.ensures r.0 r.1 in
    let within = number_within es c.args.restart r.0 r.1 in
    let fits = c.count-count.type_inv in
    omega (arith, count, number, within, fits)

pub returns-then-eq : goal.returns-then-eq
returns-then-eq c r at_r = (let number = c.number.ensures r at_r in
    inl (sym (eqb-true c.member.result c.args.member (sym c.eq.ensures ∙ c.if-eq.true)) ∙ own (goal.at.returns-then-eq c).After-eq r at_r, omega (arith, number)))

pub returns-else-eq : goal.returns-else-eq
returns-else-eq c r at_r = inr (
  λ same.
      let both = own (goal.at.returns-else-eq c).After-eq r at_r ∙ sym same in
      false≢true (sym c.if-eq.false ∙ c.eq.ensures ∙ ap (λ (m : ℕ). m == c.args.member) both ∙ eqb-self c.args.member),
  c.count_beside.ensures r at_r,
)
