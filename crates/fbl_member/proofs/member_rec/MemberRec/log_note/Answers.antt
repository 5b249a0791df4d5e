use Rattle.fbl_member.proofs.Common.{◌-◌, arith, slice_get-get_or, slice_get_past}
use Rattle.fbl_member.proofs.Logs.{noted-at, noted-none}
use Rattle.fbl_member.proofs.member_rec.MemberRec.log_note.Goals as goal

pub returns-then-ssn-eq0 : goal.returns-then-ssn-eq0
returns-then-ssn-eq0 g c = grind (arith, noted-none)

pub returns-then-place-log : goal.returns-then-place-log
returns-then-place-log g c = grind (arith, noted-at 0 c.self.inside.log.items (c.args.ssn - 1), slice_get-get_or)

pub returns-else-place-log : goal.returns-else-place-log
returns-else-place-log g c = grind (arith, noted-at 0 c.self.inside.log.items (c.args.ssn - 1), slice_get_past)
