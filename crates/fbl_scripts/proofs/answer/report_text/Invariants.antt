use Rattle.fbl_scripts.proofs.Common.{◌≡◌, member_line, of_members, string_bytes}
use Rattle.fbl_scripts.proofs.answer.report_text.Given as goal

abbrev pub invariant-loop-number : goal.invariant-loop-number
invariant-loop-number g l = string_bytes l.text ≡ of_members (member_line l.group) l.number
