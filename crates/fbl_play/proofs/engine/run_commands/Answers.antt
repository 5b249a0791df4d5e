use Rattle.fbl_play.proofs.Common.{[], arith, inl, inr, refl}
use Rattle.fbl_play.proofs.Histories.{begun_told, led_on, still_told}
use Rattle.fbl_play.proofs.Moments.{play_all, play_stopped, run_more, run_sound}
use Rattle.fbl_play.proofs.engine.run_commands.Goals as goal

pub loop-command-init : goal.loop-command-init
loop-command-init g c = (
  [],
  record {
    first = c.in_ok-group.group;
    begun = _;
    start = c.in_ok-group.ensures;
    sound = c.recoverable.ensures.sound;
    begins = c.in_ok-begin.ensures.begun;
    commands = refl;
    along = refl;
    told = begun_told g.B.Behaviour.next _ _ _ _ c.in_ok-group.ensures c.in_ok-begin.ensures.begun;
  },
  refl,
)

pub returns-in_err-answer : goal.returns-in_err-answer
returns-in_err-answer g c =
    play_stopped _ _ _ _ _ _ _ _ _ _ _ c.loop-command.invariant _ c.loop-command-test.true c.command-item.is _ c.before-in-loop-command.ensures
    _ _ _ c.from_residual-in_err-answer.ensures.1 (inl (refl, refl))

pub returns-in_err-add : goal.returns-in_err-add
returns-in_err-add g c =
    play_stopped _ _ _ _ _ _ _ _ _ _ _ c.loop-command.invariant _ c.loop-command-test.true c.command-item.is _ c.before-in-loop-command.ensures
    _ _ _ c.from_residual-in_err-add.ensures.1
    (inr (c.run_command-after.result.0, c.in_ok-answer.answer, (rw c.in_ok-answer.was at c.run_command-after.ensures.step), c.recoverable-in-loop-command.ensures.sound, c.in_err-add.ensures.cut))

pub add-requires-clause-led : goal.add-requires-clause-led
add-requires-clause-led g c =
    led_on g.B.Behaviour.next c.args.workers c.loop-command.group c.run_command-after.result.0 c.sends_well.ensures
    (run_sound g.B.Behaviour.next c.args.workers _ _ _ _ _ c.loop-command.invariant.1) c.command-item.result c.in_ok-answer.answer _
    (rw c.in_ok-answer.was at c.run_command-after.ensures.step) c.loop-command.invariant.1.told

pub loop-command-preserved : goal.loop-command-preserved
loop-command-preserved g c =
    run_more _ _ _ _ _ _ _ _ _ _ _ c.loop-command.invariant _ c.loop-command-test.true c.command-item.is _ c.before-in-loop-command.ensures
    c.in_ok-answer.answer _ _ (record {
      step = rw c.in_ok-answer.was at c.run_command-after.ensures.step;
      sound = c.recoverable-in-loop-command.ensures.sound;
      added = c.in_ok-add.ensures.added;
    }) c.after.ensures
    (still_told g.B.Behaviour.next c.args.workers c.loop-command.group c.run_command-after.result.0 c.sends_well.ensures
    (run_sound g.B.Behaviour.next c.args.workers _ _ _ _ _ c.loop-command.invariant.1) c.command-item.result c.in_ok-answer.answer _ _
    (rw c.in_ok-answer.was at c.run_command-after.ensures.step) c.loop-command.invariant.1.told c.in_ok-add.ensures.added)

pub returns : goal.returns
returns g c = play_all _ _ _ _ _ _ _ _ _ _ _ c.loop-command.invariant (omega (arith, c.loop-command-test.false))
