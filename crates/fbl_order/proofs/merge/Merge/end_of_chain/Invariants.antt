use Rattle.fbl_order.proofs.Common.{◌-◌, length}
use Rattle.fbl_order.proofs.Chains.{IsWalk}
use Rattle.fbl_order.proofs.merge.Merge.end_of_chain.Given as goal

abbrev pub invariant-links : goal.invariant-links
invariant-links l = IsWalk l.n l.entries l.self l.first l.chain.items l.place

abbrev pub decreases-links : goal.decreases-links
decreases-links l = length l.entries - length l.chain.items
