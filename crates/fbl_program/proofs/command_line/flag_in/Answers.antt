use Rattle.fbl_program.proofs.Common.{◌∙◌, found_of, one_text-rows}
use Rattle.fbl_program.proofs.Lines.{flag_is}
use Rattle.fbl_program.proofs.command_line.flag_in.Goals as goal

pub returns : goal.returns
returns c = λ given e. flag_is given c.get_flag.result _ c.get_flag.ensures.value c.get_flag.ensures.other (one_text-rows (found_of c.args.found.now) c.args.name.now ∙ e)
