use Rattle.fbl_verdicts.proofs.Common.{ℕ, ◌≡◌, ◌∙◌, get_or, arith, ap, sym, false≢true}
use Rattle.std.specs.FinSet as set
use Rattle.fbl_runs.specs.Clocks.{StandsAt}
use Rattle.fbl_runs.specs.HappenedBefore.{Position}
use Rattle.fbl_judge.proofs.Places.{member_is, read_at}
use Rattle.fbl_verdicts.proofs.forgotten.is_forgotten_in.Goals as goal
use Rattle.fbl_verdicts.proofs.forgotten.is_forgotten_in.Goals.{After-number-2, then-come-number-via-then-come-number, then-come-number-via-else-come-number+then-has}

-- the member that restarts
own : (c : After-number-2) (r : Position) → StandsAt c.args.pasts.now.entries c.args.restart r → c.member-member.result ≡ r.member
own c r at_r =
    let es = c.args.pasts.now.entries in
    c.member-member.ensures ∙ member_is es c.args.restart c.index-entries-restart.result r (read_at es c.entries.result.now c.args.restart c.index-entries-restart.result c.entries.ensures.entries c.requires c.index-entries-restart.is) at_r

pub returns-then-come-number : goal.returns-then-come-number
returns-then-come-number c r at_r = (
  λ no. absurd (false≢true no),
  λ is.
      let member = own (goal.at.returns-then-come-number c).After-number-2 r at_r in
      absurd (elim c.then-come-number.branch [
        | then-come-number-via-then-come-number w ↦
            let come = is.come in
            let number = c.number-2.ensures r at_r in
            let count = ap (λ (m : ℕ). get_or c.args.reason.now.cut m 0) (c.number.ensures.value ∙ member) in
            let past = w.if-come-number.true in
            omega (arith, come, number, count, past)
        | then-come-number-via-else-come-number+then-has w ↦ false≢true (sym is.forgotten ∙ ap (set.contains c.args.reason.now.holders) (sym member) ∙ sym w.has.ensures ∙ w.if-has.true)
      ]),
)

pub returns : goal.returns
returns c r at_r =
    let member = own (goal.at.returns c).After-number-2 r at_r in
    let number = c.number-2.ensures r at_r in
    let count = ap (λ (m : ℕ). get_or c.args.reason.now.cut m 0) (c.number.ensures.value ∙ member) in
    let before = c.if-come-number.false in (
      λ h. record {
        come = omega (arith, number, count, before);
        held = (c.held_before.ensures r at_r).0 h;
        forgotten = ap (set.contains c.args.reason.now.holders) (sym member) ∙ sym c.has.ensures ∙ c.if-has.false;
      },
      λ is. (c.held_before.ensures r at_r).1 is.held,
    )
