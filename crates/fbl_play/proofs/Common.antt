pub use Rattle.std.proofs.Common.{Err, IfErr, List, Ok, Result, [], ap, append-nil, arith, get_or, inl, inr, length, refl, subst}
pub use Rattle.std.proofs.Common.{sym, take, drop, ℕ, ◌++◌, ◌+◌, ◌<◌, ◌∙◌, ◌∷◌, ◌≡◌, ◌≤◌, Bool, true, false, not, cond, suc, map, length-drop}
pub use Rattle.fbl_group.proofs.Common.{false≢true, true_from_ne_false, filter, Next, Members, Has, itself, lost_receipts, no_orphan, up_if_none, IsStrike, GroupRecord}
pub use Rattle.fbl_group.proofs.Common.{is_recorded, knowledge, marks, IsSound, MemberRecord}
pub use Rattle.std.proofs.lemmas.List.{drop_more, get_or_default, take_all, take_more}
pub use Rattle.fbl_law.proofs.Common.{filter-append, filter_passes, Decides-same_determinant, IsRecorded, IsUp, Names}
pub use Rattle.std.proofs.lemmas.Result.{IfOk-weaker}
pub use Rattle.fbl_trace.specs.Events.{mark_of, receipt_of, receipts, same_determinant}
pub use Rattle.fbl_trace.specs.declared.strike.Strike.{Strike}
pub use Rattle.fbl_trace.specs.declared.trace.Determinant.{Determinant}
pub use Rattle.fbl_trace.specs.declared.trace.Event.{Event}
pub use Rattle.fbl_law.proofs.Keeping.{recorded_test, was_up}
pub use Rattle.fbl_threads.specs.Drains.{RecordedDrains}
pub use Rattle.fbl_threads.specs.declared.drains.DrainRefusal.{DrainRefusal}
pub use Rattle.fbl_threads.specs.declared.drains.RecordedDrain.{RecordedDrain}
pub use Rattle.fbl_scripts.specs.Reasons.{IsPlanRefused}
pub use Rattle.fbl_scripts.proofs.Common.{None, Option, Some}
pub use Rattle.fbl_scripts.proofs.Common.{map_push, over_input}
pub use Rattle.std.proofs.Math.Logic.{∥∥₁_map}
pub use Rattle.std.proofs.lemmas.Result.{err_from_is_err_and}
pub use Rattle.std.specs.Result.{IsErrAnd}
pub use Rattle.fbl_history.proofs.Common.{Settings, SendsWell, IsHistoryOf, IsLedTo, IsGroupStart}
pub use Rattle.fbl_history.proofs.Deliveries.{follows_delivery}
pub use Rattle.fbl_history.proofs.Recoveries.{follows_recovery}
pub use Rattle.fbl_history.proofs.Steps.{begins_at_start, follows_checkpoint, follows_strike}
pub use Rattle.fbl_history.proofs.Turning.{history_led}
pub use Rattle.fbl_history.specs.declared.column.Column.{Column}
pub use Rattle.fbl_input.specs.declared.output.OutputFault.{OutputFault}
pub use Rattle.fbl_scripts.specs.Scripts.{IsScriptFault, IsScriptOf, outline}
pub use Rattle.fbl_scripts.specs.declared.script.Command.{Command}
pub use Rattle.fbl_turns.proofs.Leading.{turns_lead}
pub use Rattle.fbl_play.specs.Plays.{Along, IsPlay, IsRun, IsRunOne, IsStopped, Moment, Observes, PlaysUnobserved, Ran, Runs, next_of}
pub use Rattle.fbl_play.specs.Steps.{Step, turns_each}
pub use Rattle.fbl_play.specs.Transcripts.{IsAdded, IsBegun, IsLedOn, IsOfGroup, Transcript}
pub use Rattle.fbl_scripts.specs.declared.answer.Answer.{Answer}
