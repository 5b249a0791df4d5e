use Rattle.fbl_verdicts.proofs.Common.{ℕ, ◌≡◌, ◌↔◌, ◌∙◌, arith, ap, sym, subst, Determinant}
use Rattle.fbl_runs.specs.Clocks.{cut_of}
use Rattle.fbl_runs.specs.Entries.{Logs, log_of}
use Rattle.fbl_runs.specs.HappenedBefore.{Position}
use Rattle.fbl_runs.specs.Lives.{StandsBehind}
use Rattle.fbl_runs.specs.Moments.{Cut, HoldsAt}
use Rattle.fbl_judge.proofs.Places.{member_is, read_at}
use Rattle.fbl_verdicts.specs.Forgotten.{HeldBefore}
use Rattle.fbl_verdicts.proofs.Cuts.{reached_own}
use Rattle.fbl_verdicts.proofs.forgotten.held_before.Goals as goal

-- who holds at a cut that has the member's entries before the position
held : (logs : Logs) (cut : Cut) (d : Determinant) (m number : ℕ) (r : Position) → m ≡ r.member → cut m ≡ number → number ≡ r.number → HoldsAt logs cut d m ↔ HeldBefore logs d r
held logs cut d m number r member count is = (
  λ holds. (let own = subst (λ (m : ℕ). HoldsAt logs cut d m) member holds in (own.0, own.1, subst (λ (n : ℕ). StandsBehind (logs r.member) own.0 n) same own.2)),
  λ before. subst (λ (m : ℕ). HoldsAt logs cut d m) (sym member) (before.0, before.1, subst (λ (n : ℕ). StandsBehind (logs r.member) before.0 n) (sym same) before.2),
) where
  same : cut r.member ≡ r.number
  same = ap cut (sym member) ∙ count ∙ is

pub returns : goal.returns
returns c r at_r =
    let es = c.args.pasts.now.entries in
    let m = c.member-member.result in
    let e = c.index-entries-restart.result in
    let own : m ≡ r.member = c.member-member.ensures ∙ member_is es c.args.restart e r (read_at es c.entries.result.now c.args.restart e c.entries.ensures.entries c.requires c.index-entries-restart.is) at_r in
    let cut = cut_of c.reaching-before.result in
    let none = c.none.ensures m in
    let reached = reached_own (cut_of c.none.result) cut m c.number.result c.reaching-before.ensures in
    let count : cut m ≡ c.number.result = omega (arith, none, reached) in
    let holds = c.recorded_at.ensures.holders m in
    let before = held (log_of es) cut c.args.determinant.now m c.number.result r own count (c.number.ensures r at_r) in
    (λ h. before.0 (holds.0 (sym c.has.ensures ∙ h)), λ h. c.has.ensures ∙ holds.1 (before.1 h))
