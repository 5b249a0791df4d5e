use Rattle.fbl_judge.proofs.Common.{arith, ℕ, ◌∙◌, inl, inr, cases_eq, sym, ap, subst, false≢true, slice_get, slice_get_within, StandsAt}
use Rattle.std.proofs.lemmas.Option.{slice_get-get_or}
use Rattle.fbl_judge.proofs.Places.{position_at}
use Rattle.fbl_judge.proofs.Restarts.{restart_at, restart_place, some_is}
use Rattle.fbl_judge.proofs.named.later_restart.Goals as goal
use Rattle.fbl_judge.proofs.named.later_restart.Goals.{else-has_come-via-then-has_come+else-not-precedes, else-has_come-via-else-has_come}

pub returns-then-not-precedes : goal.returns-then-not-precedes
returns-then-not-precedes c j at_j =
    let es = c.args.pasts.now.entries in
    let restarts = c.restarts-restarts.result.now in
    let k = c.loop-restart.restart-index in
    let is = c.restarts-restarts.ensures.each k _ (slice_get-get_or restarts k 0 c.loop-restart-test.true) in
    let r = position_at es _ (slice_get_within es _ _ is.1) in
    let there = restart_at es _ r.0 is r.1 in (
      r.0,
      r.1,
      ((there.0, there.1, (c.has_come.ensures r.0 r.1).0 c.if-has_come.true), λ path. false≢true (sym c.if-not-precedes.true ∙ (c.precedes.ensures r.0 j r.1 at_j).1 path)),
    )

pub loop-restart-preserved : goal.loop-restart-preserved
loop-restart-preserved c j r k place at_j below at_k stands come = elim (cases_eq k c.loop-restart.restart-index) [
  | inl same ↦
      let restarts = c.restarts-restarts.result.now in
      let here = slice_get-get_or restarts c.loop-restart.restart-index 0 c.loop-restart-test.true in
      let both = sym at_k ∙ ap (slice_get restarts) same ∙ here in
      let own = subst (λ (p : ℕ). StandsAt c.args.pasts.now.entries p r) (some_is both) stands in
      elim c.else-has_come.branch [
        | else-has_come-via-then-has_come+else-not-precedes w ↦ (w.precedes.ensures r j own at_j).0 w.if-not-precedes.false
        | else-has_come-via-else-has_come w ↦ absurd (false≢true (sym w.if-has_come.false ∙ (c.has_come.ensures r own).1 come))
      ]
  | inr ne ↦ c.loop-restart.invariant j r k place at_j (omega (arith, below, ne)) at_k stands come
]

pub returns : goal.returns
returns c j at_j r come =
    let es = c.args.pasts.now.entries in
    let restarts = c.restarts-restarts.result.now in
    let w = restart_place es r come.0 come.1 in
    let k = c.restarts-restarts.ensures.all w.0 w.2 in
    c.loop-restart.invariant j r k.0 w.0 at_j (let within = slice_get_within restarts k.0 w.0 k.1 in let end = c.loop-restart-test.false in omega (arith, within, end)) k.1 w.1 come.2
