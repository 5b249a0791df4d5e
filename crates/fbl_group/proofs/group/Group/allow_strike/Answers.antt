use Rattle.std.specs.FinSet as set
use Rattle.fbl_group.proofs.Striking.{◌≤◌, arith, nat_tests}
use Rattle.fbl_group.proofs.group.Group.allow_strike.Goals as goal

pub returns-clause-allowed : goal.returns-clause-allowed
returns-clause-allowed g c = let few : set.len (set.union c.args.self.now.down c.args.set) ≤ c.args.self.now.config.f = omega (arith, rw (c.union.ensures, c.down.ensures.down) at c.count-2.ensures, rw c.config.ensures at c.f.ensures) in grind (arith, nat_tests)
