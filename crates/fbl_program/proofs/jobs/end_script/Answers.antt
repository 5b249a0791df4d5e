use Rattle.fbl_program.proofs.Common.{Err, IfSome_then, Ok, inl, outline, refl, over_fault, DoesScript, IsScriptFault, IsScriptOf, OverInput}
use Rattle.fbl_program.proofs.Endings.{ended, script_ended}
use Rattle.fbl_program.proofs.jobs.end_script.Goals as goal

pub returns-in-Ok-do_script : goal.returns-in-Ok-do_script
returns-in-Ok-do_script g c =
    script_ended c.args.task (outline c.in-Ok.script) _ _ (Ok c.in-Ok-do_script.is_well) _ (g.R.Read.remaining c.args.reader.now.stream)
    c.in-Ok.ensures.script c.in-Ok-do_script.ensures c.end.ensures

pub returns-in-Err-Output : goal.returns-in-Err-Output
returns-in-Err-Output g c =
    script_ended c.args.task (outline c.in-Ok.script) _ _ (Err c.in-Err-Output.fault) _ (g.R.Read.remaining c.args.reader.now.stream)
    c.in-Ok.ensures.script (rw (c.in-Err-Output.is, c.in-Err-Output.field-0-is) at c.do_script.ensures) c.end-in-Err-Output.ensures

pub returns-in-Err : goal.returns-in-Err
returns-in-Err g c =
    let had = g.W.Write.contents c.args.writer.now.stream in
    let known = g.R.Read.remaining c.args.reader.now.stream in
    let fault = c.in-Err.fault.fault in
    let task = c.args.task in
    IfSome_then known
    (ended known (λ input. OverInput (IsScriptOf input) (IsScriptFault input) (λ s. DoesScript task s had had) had had) (Err fault) _ c.refuse_input.ensures
    (over_fault IsScriptOf IsScriptFault (λ s. DoesScript task s had had) had known fault (Err fault) (IfSome_then known c.in-Err.ensures.fault (λ _ no. no.1.first)) refl))
    (λ _ done. inl done)
