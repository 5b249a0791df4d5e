use Rattle.std.proofs.Common.{◌∙◌, ap}
use Rattle.fbl_law.specs.Promises.{dump_of}
use Rattle.fbl_scripts.proofs.answer.totals_of.Goals as goal

pub totals_in-requires : goal.totals_in-requires
totals_in-requires g c = c.in-Ok.ensures.dumped.1 ∙ ap (dump_of c.args.group.now) c.down.ensures.down
