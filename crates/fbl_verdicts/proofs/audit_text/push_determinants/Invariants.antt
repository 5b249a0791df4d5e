use Rattle.std.proofs.Common.{◌≡◌, ◌++◌, drop, string_bytes}
use Rattle.std.specs.List.{flat_map}
use Rattle.fbl_verdicts.specs.Lines.{determinant_line}
use Rattle.fbl_verdicts.proofs.audit_text.push_determinants.Given as goal

abbrev pub invariant-loop-determinant : goal.invariant-loop-determinant
invariant-loop-determinant l = string_bytes l.text ++ flat_map determinant_line (drop l.determinant-index l.lost) ≡ string_bytes l.fn.text ++ flat_map determinant_line l.lost
