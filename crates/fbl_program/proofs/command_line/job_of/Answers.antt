use Rattle.fbl_program.proofs.Common.{map, string_bytes, sym}
use Rattle.fbl_program.proofs.Lines.{misused, no_task, no_job, none_found, refused, job_is, taken}
use Rattle.fbl_program.proofs.command_line.job_of.Goals as goal

pub returns-in_err-matches-clause-refused : goal.returns-in_err-matches-clause-refused
returns-in_err-matches-clause-refused c =
    refused (map string_bytes c.args.words.now) c.in_err-matches.field-0.0 c.from_residual-in_err-matches.result
    c.from_residual-in_err-matches.ensures.1 (λ line. c.in_err-matches.ensures.passes (taken _ (map string_bytes c.args.words.now) c.in_ok-command.ensures line))

pub returns-in_err-matches-clause-misuse : goal.returns-in_err-matches-clause-misuse
returns-in_err-matches-clause-misuse c =
    misused _ (map string_bytes c.args.words.now) c.in_err-matches.field-0.0 c.from_residual-in_err-matches.result c.in_ok-command.ensures
    c.from_residual-in_err-matches.ensures.1 c.in_err-matches.ensures.kinds

pub returns-in-Some-2-clause-given : goal.returns-in-Some-2-clause-given
returns-in-Some-2-clause-given c =
    job_is _ _ c.in_ok-matches.matches c.in_ok-command.ensures c.in_ok-matches.ensures.matches _ _ c.in-Some.ensures.name c.in-Some.ensures.rows
    c.in_ok-job-in-Some.field-0 c.in-Some-2.job c.in-Some-2.is c.in_ok-job-in-Some.ensures

pub returns-in-Some-clause-refused : goal.returns-in-Some-clause-refused
returns-in-Some-clause-refused c =
    no_job _ _ c.in_ok-matches.matches c.in_ok-command.ensures c.in_ok-matches.ensures.matches _ _ c.in-Some.ensures.name c.in-Some.ensures.rows
    c.in_ok-job-in-Some.field-0 c.in-None-2.is c.in_ok-job-in-Some.ensures

pub returns-in-Some-clause-misuse : goal.returns-in-Some-clause-misuse
returns-in-Some-clause-misuse c =
    no_task _ _ c.in_ok-matches.matches c.in_ok-command.ensures c.in_ok-matches.ensures.matches _ _ c.in-Some.ensures.name c.in-Some.ensures.rows
    c.in_ok-job-in-Some.field-0 c.in-None-2.is c.in_ok-job-in-Some.ensures

pub returns-clause-misuse : goal.returns-clause-misuse
returns-clause-misuse c = none_found _ _ c.in_ok-matches.matches c.in_ok-command.ensures c.in_ok-matches.ensures.matches (sym c.in-None.ensures.name)
