use Rattle.fbl_group.proofs.Common.{arith, append_assoc, at_drop_more, pairs_from, sym, ◌∙◌, append-nil, drop_of_length-le}
use Rattle.fbl_group.proofs.dump.held_pairs.Goals as goal

pub loop-place-preserved : goal.loop-place-preserved
loop-place-preserved g c =
    let i = c.loop-place.place in
    let rest = (rw (← c.index-members-place.is) at (at_drop_more (pairs_from i) c.args.members.now i c.index-members-place.result (omega arith))) in
    rw (c.in_ok-push_pairs.ensures, c.at-holder.ensures, c.table.ensures, append_assoc, ← rest) c.loop-place.invariant

pub returns : goal.returns
returns g c = sym (append-nil _) ∙ (rw (drop_of_length-le c.args.members.now c.loop-place-test.false) at c.loop-place.invariant)
