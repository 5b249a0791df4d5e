use Rattle.fbl_member.proofs.Common.{◌≡◌, ◌++◌, drop, starts_of}
use Rattle.fbl_member.proofs.member_rec.MemberRec.fresh.Given as goal

abbrev pub invariant-loop-start : goal.invariant-loop-start
invariant-loop-start g l = l.log.items ++ starts_of l.me (drop l.start-index l.start-items) ≡ starts_of l.me l.start-items
