use Rattle.fbl_program.proofs.Common.{◌∙◌, codes, decimal, ExplainsUnsignedError, HasUnsignedDigitsIfOk, ParsesUnsigned, found_of, one_text-rows}
use Rattle.fbl_program.proofs.Lines.{read_number}
use Rattle.fbl_program.proofs.command_line.workers_in.Goals as goal

pub returns : goal.returns
returns c = λ n small e.
    c.unwrap_or.ensures ∙ read_number (λ bs r. ParsesUnsigned 8 10 bs r × ExplainsUnsignedError 10 bs r × HasUnsignedDigitsIfOk bs r) n 2
    c.get_one.result small (λ r g. g.0) (c.get_one.ensures.value (decimal n) (one_text-rows (found_of c.args.found.now) (codes "workers") ∙ e))
