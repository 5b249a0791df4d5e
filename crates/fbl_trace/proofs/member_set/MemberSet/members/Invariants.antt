-- the members found and those from the number on are all
use Rattle.fbl_trace.proofs.Common.{◌≡◌, ◌++◌, ◌-◌, filter, range_with_len, member_list}
use Rattle.std.specs.FinSet as set
use Rattle.fbl_trace.proofs.member_set.MemberSet.members.Given as goal

abbrev pub invariant-loop-number : goal.invariant-loop-number
invariant-loop-number l = l.members.items ++ filter (set.contains l.self) (range_with_len l.number (16 - l.number)) ≡ member_list l.self
