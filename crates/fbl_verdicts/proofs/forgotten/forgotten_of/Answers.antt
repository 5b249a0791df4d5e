use Rattle.fbl_verdicts.proofs.Common.{◌∙◌, arith, sym, false≢true}
use Rattle.fbl_trace.proofs.Common.{slice_get_within}
use Rattle.std.proofs.lemmas.Option.{slice_get-get_or}
use Rattle.fbl_judge.proofs.Places.{position_at}
use Rattle.fbl_verdicts.proofs.ForgottenLaws.{found_all, found_more, found_same}
use Rattle.fbl_verdicts.proofs.forgotten.forgotten_of.Goals as goal
use Rattle.fbl_verdicts.proofs.forgotten.forgotten_of.Goals.{then-is_forgotten_in+in_ok-push, else-is_forgotten_in}

pub is_forgotten_in-requires : goal.is_forgotten_in-requires
is_forgotten_in-requires c =
    let all = c.restarts-all.result.now in
    let is = c.restarts-all.ensures.each c.loop-restart.restart-index _ (slice_get-get_or all c.loop-restart.restart-index 0 c.loop-restart-test.true) in
    slice_get_within c.args.pasts.now.entries _ _ is.1

pub loop-restart-preserved : goal.loop-restart-preserved
loop-restart-preserved c =
    let es = c.args.pasts.now.entries in
    let reason = c.args.reason.now in
    let all = c.restarts-all.result.now in
    let n = c.loop-restart.restart-index in
    let places = c.loop-restart.restarts.items in
    let here = slice_get-get_or all n 0 c.loop-restart-test.true in
    let is = c.restarts-all.ensures.each n _ here in
    let r = position_at es _ (slice_get_within es _ _ is.1) in
    elim c.if-is_forgotten_in.branch [
      | then-is_forgotten_in+in_ok-push w ↦ rw (w.restarts-is, w.in_ok-push.ensures.items)
          (found_more es reason all n _ here places c.loop-restart.invariant is r.0 r.1 ((c.is_forgotten_in.ensures r.0 r.1).0 w.if-is_forgotten_in.true))
      | else-is_forgotten_in w ↦ rw w.restarts-is (found_same es reason all n _ here places c.loop-restart.invariant
          (λ s at_s lost. false≢true (sym w.if-is_forgotten_in.false ∙ (c.is_forgotten_in.ensures s at_s).1 lost)))
    ]

pub returns : goal.returns
returns c = found_all c.args.pasts.now.entries c.args.reason.now c.restarts-all.result.now c.loop-restart.restart-index c.loop-restart.restarts.items c.restarts-all.ensures
    (let end = c.loop-restart-test.false in omega (arith, end)) c.loop-restart.invariant
