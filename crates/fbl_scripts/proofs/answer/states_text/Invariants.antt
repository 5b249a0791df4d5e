use Rattle.fbl_scripts.proofs.Common.{◌≡◌, ◌++◌, of_members, state_word, string_bytes}
use Rattle.std.proofs.Common.{codes}
use Rattle.fbl_scripts.proofs.answer.states_text.Given as goal

abbrev pub invariant-loop-number : goal.invariant-loop-number
invariant-loop-number g l = string_bytes l.text ≡ codes "states" ++ of_members (state_word l.group) l.number
