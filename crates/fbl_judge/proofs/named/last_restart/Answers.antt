use Rattle.fbl_judge.proofs.Common.{arith, ℕ, ◌∙◌, ◌+◌, Option, sym, subst, false≢true, cut_of, slice_get_within}
use Rattle.std.proofs.lemmas.Option.{slice_get-get_or}
use Rattle.fbl_judge.proofs.Places.{position_at}
use Rattle.fbl_judge.proofs.Restarts.{IsLastIn, last_new, last_place, last_same, last_within}
use Rattle.fbl_judge.proofs.named.last_restart.Goals as goal
use Rattle.fbl_judge.proofs.named.last_restart.Goals.{then-is_last+then-is_lesser, else-is_last, else-is_last-via-then-is_last+else-is_lesser, else-is_last-via-else-is_last}

pub is_lesser-requires-clause-least : goal.is_lesser-requires-clause-least
is_lesser-requires-clause-least c =
    let j = position_at c.args.pasts.now.entries c.args.entry c.requires in
    last_within c.args.pasts.now (cut_of c.args.moment.now) j.0 c.restarts-restarts.result.now c.loop-restart.restart-index c.loop-restart.least (c.loop-restart.invariant j.0 j.1)

pub loop-restart-preserved : goal.loop-restart-preserved
loop-restart-preserved c j at_j =
    let run = c.args.pasts.now in
    let cut = cut_of c.args.moment.now in
    let restarts = c.restarts-restarts.result.now in
    let n = c.loop-restart.restart-index in
    let here = slice_get-get_or restarts n 0 c.loop-restart-test.true in
    let is = c.restarts-restarts.ensures.each n _ here in
    let r = position_at run.entries _ (slice_get_within run.entries _ _ is.1) in
    let was = c.loop-restart.invariant j at_j in
    elim c.if-is_last.branch [
      | then-is_last+then-is_lesser w ↦ subst (λ (o : Option ℕ). IsLastIn run cut j restarts (n + 1) o) (sym w.least-is)
          (last_new run cut j restarts n _ here c.loop-restart.least r.0 r.1 ((c.is_last.ensures j r.0 at_j r.1).0 w.if-is_last.true) ((w.is_lesser.ensures r.0 r.1).0 w.if-is_lesser.true) was)
      | else-is_last w ↦ subst (λ (o : Option ℕ). IsLastIn run cut j restarts (n + 1) o) (sym w.least-is) (last_same run cut j restarts n _ here c.loop-restart.least
          (λ s at_s last lesser. elim w.else-is_last.branch [
            | else-is_last-via-then-is_last+else-is_lesser w' ↦ false≢true (sym w'.if-is_lesser.false ∙ (w'.is_lesser.ensures s at_s).1 lesser)
            | else-is_last-via-else-is_last w' ↦ false≢true (sym w'.if-is_last.false ∙ (c.is_last.ensures j s at_j at_s).1 last)
          ]) was)
    ]

pub returns : goal.returns
returns c j at_j = last_place c.args.pasts.now (cut_of c.args.moment.now) j c.restarts-restarts.result.now c.loop-restart.restart-index c.loop-restart.least c.restarts-restarts.ensures
    (let end = c.loop-restart-test.false in omega (arith, end)) (c.loop-restart.invariant j at_j)
