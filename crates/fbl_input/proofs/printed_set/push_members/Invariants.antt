use Rattle.std.proofs.Common.{◌≡◌, ◌++◌, take, string_bytes}
use Rattle.fbl_input.specs.Lines.{after_commas}
use Rattle.fbl_input.proofs.printed_set.push_members.Given as goal

abbrev pub invariant-loop-member : goal.invariant-loop-member
invariant-loop-member l = string_bytes l.text ≡ string_bytes l.fn.text ++ after_commas (take l.member-index l.members)
