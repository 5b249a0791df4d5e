-- the set is that of the members so far
use Rattle.fbl_records.proofs.Common.{◌≡◌, take, nat_cmp}
use Rattle.std.specs.FinSet as set
use Rattle.fbl_records.proofs.dump_tokens.next_set.Given as goal

abbrev pub invariant-loop-member : goal.invariant-loop-member
invariant-loop-member l = l.set ≡ set.from_list {R = nat_cmp} (take l.member-index l.member-items)
