-- The lines of audits and of checks.
use Rattle.std.specs.Prelude.{ℕ, List, [], ◌∷◌, ◌++◌, length, codes, decimal}
use Rattle.std.specs.List.{flat_map}
use Rattle.std.specs.Ordering.{nat_cmp}
use Rattle.std.specs.FinSet as set
use Rattle.fbl_judge.specs.declared.check.UnsafeReceipt.{UnsafeReceipt}
use Rattle.fbl_judge.specs.declared.undone.UndoneReceipt.{UndoneReceipt}
use Rattle.fbl_trace.specs.declared.trace.Determinant.{Determinant}
use Rattle.fbl_input.specs.Lines.{line, lost_line, orphans_line, set_words}
use Rattle.fbl_verdicts.specs.declared.check_text.Said.{Said}
use Rattle.fbl_verdicts.specs.declared.check_text.Said.TheVariants.{Undone, Unsafe}

-- a determinant: source, send number, destination, receipt number, each behind a space
abbrev pub determinant_words : Determinant → List ℕ
determinant_words d = codes " " ++ decimal d.from ++ codes " " ++ decimal d.ssn ++ codes " " ++ decimal d.to ++ codes " " ++ decimal d.rsn

abbrev pub determinant_line : Determinant → List ℕ
determinant_line d = line (codes "determinant" ∷ determinant_words d ∷ [])

-- what the audit prints: how many receipts are lost, their determinants, and the orphans
abbrev pub audit_lines : List Determinant → set.FinSet nat_cmp → List ℕ
audit_lines lost orphans = lost_line (length lost) ++ flat_map determinant_line lost ++ orphans_line orphans

-- the members lost with a receipt, and the orphans that are left
abbrev pub outcome_line : set.FinSet nat_cmp → set.FinSet nat_cmp → List ℕ
outcome_line strike orphans = line (codes " strike " ∷ set_words strike ∷ codes " orphans " ∷ set_words orphans ∷ [])

-- a receipt that could be lost: its determinant, and the words for where its moment stands
abbrev pub unsafe_line : List ℕ → UnsafeReceipt → List ℕ
unsafe_line words u = codes "unsafe" ++ determinant_words u.determinant ++ words ++ outcome_line u.strike u.orphans

-- the orphans that a restart left
abbrev pub left_line : set.FinSet nat_cmp → List ℕ
left_line orphans = line (codes " orphans " ∷ set_words orphans ∷ [])

-- a receipt that a restart undid: its determinant, and the words for where the restart stands
abbrev pub undone_line : List ℕ → UndoneReceipt → List ℕ
undone_line words u = codes "undone" ++ determinant_words u.determinant ++ words ++ left_line u.orphans

-- the place of the receipt of which it is said
abbrev pub said_place : Said → ℕ
said_place (Unsafe u) = u.place
said_place (Undone u) = u.place
