use Rattle.fbl_member.proofs.Common.{◌≡◌, ◌++◌, drop, numbered, logged_beyond}
use Rattle.fbl_member.proofs.member_rec.MemberRec.unsent_beyond.Given as goal

abbrev pub invariant-loop-place : goal.invariant-loop-place
invariant-loop-place g l =
    l.beyond.items ++ logged_beyond (numbered l.place (drop l.place l.self-inside.log.items)) l.to l.ssn ≡ logged_beyond (numbered 0 l.self-inside.log.items) l.to l.ssn
