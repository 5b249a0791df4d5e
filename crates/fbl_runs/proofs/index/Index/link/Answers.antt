use Rattle.fbl_runs.proofs.Common.{arith}
use Rattle.std.proofs.lemmas.Option.{slice_get-get_or}
use Rattle.fbl_runs.proofs.index.Index.link.Goals as goal

pub returns : goal.returns
returns c j stands =
    let are = c.links.ensures in
    are.each c.args.place j _ stands (slice_get-get_or c.links.result.now c.args.place _ (let within = c.requires in let count = are.count in omega (arith, within, count)))
