use Rattle.fbl_order.proofs.Common.{[], ◌∷◌, ap, arith, length, length-append, placed_of}
use Rattle.fbl_order.proofs.Chains.{begun_walk, closed, closes-within, few_linked, linked, walked}
use Rattle.fbl_order.proofs.merge.Merge.end_of_chain.Goals as goal

pub links-init : goal.links-init
links-init c = rw c.new-chain.ensures.items (begun_walk c.args.n c.args.entries.now c.args.self.now c.args.first c.requires.next)

pub links-preserved : goal.links-preserved
links-preserved c =
    let goes = rw (c.as_slice.ensures.value, c.in_ok-push.ensures.items) at c.in-To.ensures in
    rw c.in_ok-push.ensures.items (walked c.args.n c.args.entries.now c.args.self.now c.args.first c.links.place c.links.chain.items c.stuck-stuck.result
    c.links.invariant c.stuck-stuck.ensures.place c.stuck-stuck.ensures.stuck c.in-To.next goes.0 (c.stuck-stuck.ensures.next c.in-To.next goes.0) goes.1)

pub links-smaller : goal.links-smaller
links-smaller c =
    let longer = linked c.args.n c.args.entries.now c.args.self.now c.args.first c.links.place c.links.chain.items c.stuck-stuck.result
    c.links.invariant c.stuck-stuck.ensures.place c.stuck-stuck.ensures.stuck in
    let few = few_linked c.args.n c.args.entries.now (placed_of c.args.entries.now c.args.self.now) _ longer in
    omega (arith, few, length-append c.links.chain.items (c.stuck-stuck.result ∷ []), ap length c.in_ok-push.ensures.items)

pub stuck-stuck-requires-clause-next : goal.stuck-stuck-requires-clause-next
stuck-stuck-requires-clause-next c = c.links.invariant.next

pub split_off-requires : goal.split_off-requires
split_off-requires c =
    omega (arith, closes-within c.as_slice.result.now c.stuck-stuck.result.obstacle c.in-Ends.number c.in-Ends.ensures, c.as_slice.ensures.len)

pub returns-in-Ends : goal.returns-in-Ends
returns-in-Ends c =
    let closes = rw (c.as_slice.ensures.value, c.in_ok-push.ensures.items) at c.in-Ends.ensures in
    rw (c.in_ok-split_off-in-Ends.ensures.tail, c.in_ok-push.ensures.items) (closed c.args.n c.args.entries.now c.args.self.now c.args.first c.links.place
    c.links.chain.items c.stuck-stuck.result
    c.links.invariant c.stuck-stuck.ensures.place c.stuck-stuck.ensures.stuck c.in-Ends.number closes)
