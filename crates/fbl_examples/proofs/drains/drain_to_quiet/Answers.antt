use Rattle.std.proofs.Common.{arith}
use Rattle.std.proofs.lemmas.Bool.Decides.{nat_tests}
use Rattle.std.specs.FinSet as set
use Rattle.fbl_examples.proofs.drains.drain_to_quiet.Goals as goal

pub returns-2-clause-nobody : goal.returns-2-clause-nobody
returns-2-clause-nobody g c = set.empty_of_len c.drain-group.result.0.down (grind (arith, nat_tests, c.is_quiet.ensures))
