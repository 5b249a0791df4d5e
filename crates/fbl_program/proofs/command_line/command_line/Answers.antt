use Rattle.fbl_program.proofs.Common.{◌≡◌, ◌∙◌, IfOk-weaker, ap, codes}
use Rattle.clap.specs.Words.{AddsSubcommand, app_of}
use Rattle.fbl_program.specs.CommandLines.{draw_app, program, with_reader}
use Rattle.fbl_program.proofs.Apps.{with_sub}
use Rattle.fbl_program.proofs.command_line.command_line.Goals as goal

pub returns : goal.returns
returns c =
    let merge = c.in_ok-command-2.ensures ∙ ap (with_reader (codes "merge")) c.in_ok-command.ensures in
    let audit = c.in_ok-command-3.ensures ∙ ap (with_reader (codes "audit")) merge in
    let check = c.in_ok-command-4.ensures ∙ ap (with_reader (codes "check")) audit in
    IfOk-weaker c.subcommand.result (AddsSubcommand c.in_ok-command-4.command c.in_ok-draw.field-0) (λ r. app_of r ≡ program)
    (λ r h. with_sub c.in_ok-command-4.command c.in_ok-draw.field-0 r _ draw_app h c.in_ok-draw.ensures.no_globals check c.in_ok-draw.ensures.app) c.subcommand.ensures
