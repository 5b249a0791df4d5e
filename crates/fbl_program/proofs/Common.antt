pub use Rattle.std.proofs.Common.{Bool, Err, IfErr, IfSome, List, None, Ok, Option, Result, Some, [], ap, arith, codes, decimal, drop, false, map, not, option_map, refl}
pub use Rattle.std.proofs.Common.{string_bytes, subst, suc, sym, true, unwrap_or, zero, ℕ, ◌&&◌, ◌+◌, ◌<◌, ◌||◌, ◌∙◌, ◌∷◌, ◌≡◌, ◌++◌, inl, inr}
pub use Rattle.std.proofs.Math.Bool.{or-false}
pub use Rattle.std.proofs.lemmas.Fmt.{decimal_digit, parse-decimal}
pub use Rattle.std.specs.Borrow.{Bor}
pub use Rattle.std.specs.Box.{box_value}
pub use Rattle.std.specs.List.{list_any}
pub use Rattle.std.specs.Prelude.{Box}
pub use Rattle.std.specs.Result.{IsErrAnd}
pub use Rattle.fbl_play.proofs.Common.{GroupRecord}
pub use Rattle.std.specs.Str.Parse.{ExplainsUnsignedError, HasUnsignedDigitsIfOk, ParsesUnsigned}
pub use Rattle.clap.proofs.WalkLemmas.{first_value-rows, one_text-rows, raw_values-rows}
pub use Rattle.clap.specs.Simple.{built, entered, is_simple, names_of}
pub use Rattle.clap.specs.Takes.{built_takes, takes}
pub use Rattle.clap.specs.Walk.{nothing_held, stop_after}
pub use Rattle.clap.specs.Words.{App, HasKind, HasMatchesOf, ReadsOne, Row, Text, all_of, fault_of, first_of, found_of, is_simple_and_free, kind_of, one_of, subcommand_name_of, subcommand_of, subcommand_rows, subcommand_rows_of}
pub use Rattle.clap.specs.declared.error.Error.{Error}
pub use Rattle.clap.specs.declared.error.kind.ErrorKind.TheVariants.{OutOfMemory}
pub use Rattle.clap.specs.declared.parser.matches.ArgMatches.{ArgMatches}
pub use Rattle.clap.specs.declared.parser.matches.ArgMatches.TheViews.{out-ArgMatches, out-SubCommand}
pub use Rattle.clap.specs.declared.parser.matches.SubCommand.{SubCommand}
pub use Rattle.fbl_trace.specs.Configs.{WorkersAllowed}
pub use Rattle.fbl_scripts.specs.Reasons.{is_refusal}
pub use Rattle.fbl_scripts.specs.declared.answer.Answer.{Answer}
pub use Rattle.fbl_pictures.specs.HistoryPictures.{IsHistoryPicture}
pub use Rattle.fbl_program.specs.CommandLines.{AreNames, AreWorkers, IsFlag, IsMisuseOf, IsJobOf, IsRefusedFor, Names, is_merge, IsCommandLine, IsTaskAt, flag_text, is_play, is_record, is_record_workers, is_show, task_for, explain_for, program}
pub use Rattle.fbl_program.specs.CommandLines.{with_explain, with_strict, IsJobAt, is_audit, is_check, is_draw, is_show_workers, is_workers}
pub use Rattle.fbl_program.specs.Statuses.{status_after}
pub use Rattle.fbl_program.specs.declared.job.Task.{Task}
pub use Rattle.fbl_program.specs.declared.job.Task.TheVariants.{Run, Script}
pub use Rattle.fbl_program.specs.declared.job.ScriptTask.TheVariants.{Play, Record, Show}
pub use Rattle.fbl_program.specs.declared.command_line.Misuse.{Misuse}
pub use Rattle.fbl_program.specs.declared.command_line.Misuse.TheVariants.{NoCommand, Words}
pub use Rattle.fbl_program.specs.declared.job.Job.{Job}
pub use Rattle.fbl_input.proofs.Outputs.{keeps_itself, puts_as, puts_right}
pub use Rattle.fbl_input.proofs.Inputs.{over_fault}
pub use Rattle.fbl_input.specs.Faults.{OverInput, PutsOut}
pub use Rattle.fbl_input.specs.declared.fault.RunFault.{RunFault}
pub use Rattle.fbl_input.specs.declared.output.OutputFault.{OutputFault}
pub use Rattle.fbl_play.specs.Plays.{Observes, PlaysScript, Ran, next_of}
pub use Rattle.fbl_play.proofs.Moments.{unobserved}
pub use Rattle.fbl_play.specs.Transcripts.{Transcript, text}
pub use Rattle.fbl_scripts.specs.Scripts.{IsScriptFault, IsScriptOf, Outline, behaviour_word, outline}
pub use Rattle.fbl_scripts.specs.declared.script.Command.{Command}
pub use Rattle.fbl_program.specs.Outcomes.{Answers, DoesScript, IsAnswer, IsAnswerTo, IsPlaceMissing, IsPlaceMissingOf, IsShown, PlaysWell}
pub use Rattle.fbl_program.specs.declared.fault.AnswerFault.{AnswerFault}
pub use Rattle.fbl_program.specs.declared.fault.AnswerFault.TheVariants.{Output}
pub use Rattle.fbl_program.specs.declared.job.Question.TheVariants.{Audit, Check, Draw}
pub use Rattle.fbl_program.specs.declared.job.RunTask.TheVariants.{Judge, Merge}
pub use Rattle.std.proofs.lemmas.Option.{IfSome_then}
pub use Rattle.std.proofs.lemmas.Result.{IfOk-weaker}
