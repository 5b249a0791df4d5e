use Rattle.fbl_trace.specs.declared.trace.Note.{Note}
use Rattle.fbl_play.proofs.Common.{ℕ, List, Result, Ok, Err, Next, GroupRecord, RecordedDrains, IfErr, IfOk-weaker, Strike, RecordedDrain, DrainRefusal, IsPlanRefused}
use Rattle.fbl_threads.specs.declared.drains.DrainRefusal.TheVariants as drain
use Rattle.fbl_play.proofs.commands.run_plan.Goals as goal

pub returns-clause-step : goal.returns-clause-step
returns-clause-step g c =
    IfOk-weaker c.run_answer-answer.result _ _ (λ answer is. (
      c.drain_recorded-group.result.1,
      (rw c.strikes-strikes.ensures at c.drain_recorded-group.ensures),
      (rw (c.strikes-strikes.ensures, c.receipts_ever-made.ensures, c.undone_ever-undone.ensures) at is),
    )) c.run_answer-answer.ensures.step

-- a refused plan has a bad entry, and the group is as it was
plan_refused : (next : Next ℕ Note) (workers turns : ℕ) (plan : List Strike) (old new : GroupRecord ℕ Note) (drained : Result (RecordedDrain ℕ Note) DrainRefusal)
    → RecordedDrains next workers turns plan old new drained → IfErr drained (IsPlanRefused plan new.config)
plan_refused next workers turns plan old new (Ok drained) h = tt
plan_refused next workers turns plan old new (Err (drain.BadPlan place)) h = rw h.1.1 h.1.0.1
plan_refused next workers turns plan old new (Err refusal) h = tt

pub run_answer-answer-requires : goal.run_answer-answer-requires
run_answer-answer-requires g c = plan_refused g.B.Behaviour.next c.args.workers _ _ c.args.group c.drain_recorded-group.result.0 c.drain_recorded-group.result.1 c.drain_recorded-group.ensures
