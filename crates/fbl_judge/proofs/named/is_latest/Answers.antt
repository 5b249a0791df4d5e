use Rattle.fbl_judge.proofs.Common.{arith, ℕ, ◌∙◌, inl, inr, cases_eq, sym, ap, subst, false≢true, refl, slice_get, slice_get_within, StandsAt}
use Rattle.std.proofs.lemmas.Option.{slice_get-get_or}
use Rattle.fbl_runs.proofs.LeadsLaws.{one_position}
use Rattle.fbl_judge.proofs.Places.{one_place, position_at}
use Rattle.fbl_judge.proofs.Restarts.{restart_at, restart_place, some_is}
use Rattle.fbl_judge.proofs.named.is_latest.Goals as goal
use Rattle.fbl_judge.proofs.named.is_latest.Goals.{else-other-restart-via-then-other-restart+then-has_come+else-precedes, else-other-restart-via-then-other-restart+else-has_come, else-other-restart-via-else-other-restart}

pub returns-then-precedes : goal.returns-then-precedes
returns-then-precedes c r at_r = (
  λ no. absurd (false≢true no),
  λ latest.
      let es = c.args.pasts.now.entries in
      let restarts = c.restarts-restarts.result.now in
      let k = c.loop-other.other-index in
      let is = c.restarts-restarts.ensures.each k _ (slice_get-get_or restarts k 0 c.loop-other-test.true) in
      let o = position_at es _ (slice_get_within es _ _ is.1) in
      let there = restart_at es _ o.0 is o.1 in
      let same = latest o.0 (there.0, there.1, (c.has_come.ensures o.0 o.1).0 c.if-has_come.true) ((c.precedes.ensures r o.0 at_r o.1).0 c.if-precedes.true) in
      let place = one_place es _ c.args.restart o.0 r o.1 at_r same in
      absurd (c.if-other-restart.true place),
)

pub loop-other-preserved : goal.loop-other-preserved
loop-other-preserved c r other k place at_r below at_k stands come path = elim (cases_eq k c.loop-other.other-index) [
  | inl same ↦
      let restarts = c.restarts-restarts.result.now in
      let here = slice_get-get_or restarts c.loop-other.other-index 0 c.loop-other-test.true in
      let both = sym at_k ∙ ap (slice_get restarts) same ∙ here in
      let own = subst (λ (p : ℕ). StandsAt c.args.pasts.now.entries p other) (some_is both) stands in
      elim c.else-other-restart.branch [
        | else-other-restart-via-then-other-restart+then-has_come+else-precedes w ↦ absurd (false≢true (sym w.if-precedes.false ∙ (w.precedes.ensures r other at_r own).1 path))
        | else-other-restart-via-then-other-restart+else-has_come w ↦ absurd (false≢true (sym w.if-has_come.false ∙ (w.has_come.ensures other own).1 come))
        | else-other-restart-via-else-other-restart w ↦ one_position c.args.pasts.now.entries c.args.restart other r (subst (λ (p : ℕ). StandsAt c.args.pasts.now.entries p other) w.if-other-restart.false own) at_r
      ]
  | inr ne ↦ c.loop-other.invariant r other k place at_r (omega (arith, below, ne)) at_k stands come path
]

pub returns : goal.returns
returns c r at_r = (
  λ yes other come path.
      let es = c.args.pasts.now.entries in
      let restarts = c.restarts-restarts.result.now in
      let w = restart_place es other come.0 come.1 in
      let k = c.restarts-restarts.ensures.all w.0 w.2 in
      c.loop-other.invariant r other k.0 w.0 at_r (let within = slice_get_within restarts k.0 w.0 k.1 in let end = c.loop-other-test.false in omega (arith, within, end)) k.1 w.1 come.2 path,
  λ latest. refl,
)
