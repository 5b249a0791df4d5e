use Rattle.fbl_program.proofs.Common.{◌∙◌, first_value-rows, found_of}
use Rattle.fbl_program.proofs.command_line.word_in.Goals as goal

pub returns : goal.returns
returns c = c.get_str.ensures ∙ first_value-rows (found_of c.args.found.now) c.args.name.now
