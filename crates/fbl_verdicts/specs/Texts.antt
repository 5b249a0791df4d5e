-- What an audit and a check leave in the writer.
use Rattle.std.specs.Prelude.{◌≡◌, ℕ, ◌↔◌, ◌&&◌, Bool, true, false, List, [], ◌∷◌, ◌++◌, codes, length, map, nat_eq, Option, Some, None, Result}
use Rattle.std.specs.List.{AllZip, concat}
use Rattle.std.specs.List.Sorted.{IsSortedByKey, IsStableByKey}
use Rattle.std.specs.Ordering.{nat_cmp}
use Rattle.std.specs.FinSet as set
use Rattle.fbl_trace.specs.Dumps.{Parts}
use Rattle.fbl_trace.specs.Losses.{IsDumpOrphan, lost_determinants}
use Rattle.fbl_judge.specs.Undone.{SaysUndone}
use Rattle.fbl_judge.specs.Unsafe.{SaysUnsafe}
use Rattle.fbl_judge.specs.declared.audit.Audit.{Audit}
use Rattle.fbl_input.specs.declared.output.OutputFault.{OutputFault}
use Rattle.fbl_judge.specs.declared.check.UnsafeReceipt.{UnsafeReceipt}
use Rattle.fbl_judge.specs.declared.undone.UndoneReceipt.{UndoneReceipt}
use Rattle.fbl_runs.specs.Logs.{RunParts, run_of}
use Rattle.fbl_runs.specs.Runs.{IsSafe}
use Rattle.fbl_input.specs.Faults.{OverInput, PutsOut}
use Rattle.fbl_input.specs.Lines.{line}
use Rattle.fbl_runs.specs.Sources.{IsSpotText}
use Rattle.fbl_input.specs.declared.fault.RunFault.{RunFault}
use Rattle.fbl_runs.specs.declared.sources.Sources.{Sources}
use Rattle.fbl_records.specs.Dumps.{IsDumpFault, IsDumpOf}
use Rattle.fbl_verdicts.specs.Lines.{audit_lines, said_place, undone_line, unsafe_line}
use Rattle.fbl_verdicts.specs.declared.check_text.Checked.{Checked}
use Rattle.fbl_verdicts.specs.declared.check_text.Said.{Said}
use Rattle.fbl_verdicts.specs.declared.check_text.Said.TheVariants.{Undone, Unsafe}

-- ---- audits

-- the lines of the audit of a dump: its lost determinants and its orphans
abbrev pub IsAuditText : Parts → List ℕ → Type 0
IsAuditText dump text =
    (orphans : set.FinSet nat_cmp) × ((q : ℕ) → (set.contains orphans q ≡ true) ↔ IsDumpOrphan dump q) × (text ≡ audit_lines (lost_determinants dump) orphans)

-- what the lines of an audit leave in the writer
abbrev pub PutsAudit : Audit → Option (List ℕ) → Option (List ℕ) → Result (Unit {0}) OutputFault → Type 0
PutsAudit audit = PutsOut (λ _ text. text ≡ audit_lines (map (λ l. l.determinant) audit.lost.items) audit.orphans)

-- what an audit of an input leaves in the writer
abbrev pub Audits : List ℕ → Option (List ℕ) → Option (List ℕ) → Result (Unit {0}) RunFault → Type 0
Audits input before after = OverInput (IsDumpOf input) (IsDumpFault input) (λ dump. PutsOut (λ _. IsAuditText dump) before after) before after

-- ---- checks

-- the words for where an entry stands
abbrev pub IsSpotWords : Sources → ℕ → List ℕ → Type 0
IsSpotWords sources place words = (spot : List ℕ) × IsSpotText sources place spot × (words ≡ codes " at " ++ spot)

-- so they stand behind what a text had
abbrev pub AddsSpot : Sources → ℕ → List ℕ → List ℕ → Type 0
AddsSpot sources place before after = (words : List ℕ) × IsSpotWords sources place words × (after ≡ before ++ words)

-- the words for where a moment stands, if the run is judged at each
abbrev pub IsMomentWords : Sources → Option ℕ → List ℕ → Type 0
IsMomentWords sources None words = words ≡ []
IsMomentWords sources (Some place) words = IsSpotWords sources place words

abbrev pub AddsMoment : Sources → Option ℕ → List ℕ → List ℕ → Type 0
AddsMoment sources at before after = (words : List ℕ) × IsMomentWords sources at words × (after ≡ before ++ words)

-- the line of an unsafe receipt
abbrev pub IsUnsafeLine : Sources → UnsafeReceipt → List ℕ → Type 0
IsUnsafeLine sources u text = (words : List ℕ) × IsMomentWords sources u.at words × (text ≡ unsafe_line words u)

abbrev pub AddsUnsafe : Sources → UnsafeReceipt → List ℕ → List ℕ → Type 0
AddsUnsafe sources u before after = (line : List ℕ) × IsUnsafeLine sources u line × (after ≡ before ++ line)

-- the line of a receipt that a restart undid
abbrev pub IsUndoneLine : Sources → UndoneReceipt → List ℕ → Type 0
IsUndoneLine sources u text = (words : List ℕ) × IsSpotWords sources u.at words × (text ≡ undone_line words u)

abbrev pub AddsUndone : Sources → UndoneReceipt → List ℕ → List ℕ → Type 0
AddsUndone sources u before after = (line : List ℕ) × IsUndoneLine sources u line × (after ≡ before ++ line)

-- the line of what is said of a receipt
abbrev pub IsLineOf : Sources → Said → List ℕ → Type 0
IsLineOf sources (Unsafe u) text = IsUnsafeLine sources u text
IsLineOf sources (Undone u) text = IsUndoneLine sources u text

abbrev pub AddsLine : Sources → Said → List ℕ → List ℕ → Type 0
AddsLine sources said before after = (line : List ℕ) × IsLineOf sources said line × (after ≡ before ++ line)

-- a line for each
abbrev pub AreCheckLines : Sources → List Said → List ℕ → Type 0
AreCheckLines sources said text = (lines : List (List ℕ)) × AllZip (IsLineOf sources) said lines × (text ≡ concat lines)

-- what is said stands in the order of the receipts' places; of one receipt that it is unsafe comes first
abbrev pub AreSaidInOrder : Checked → List Said → Type 0
AreSaidInOrder checked said =
    IsSortedByKey said_place nat_cmp said × IsStableByKey said_place nat_cmp (map Unsafe checked.unsafe_receipts.items ++ map Undone checked.undone_receipts.items) said

-- nothing is to be said
abbrev pub says_nothing : Checked → Bool
says_nothing checked = nat_eq (length checked.unsafe_receipts.items) 0 && nat_eq (length checked.undone_receipts.items) 0

-- the lines of what is said, or that of a safe run
abbrev pub IsTextBy : Bool → Sources → Checked → List ℕ → Type 0
IsTextBy true sources checked text = text ≡ line (codes "safe" ∷ [])
IsTextBy false sources checked text = (said : List Said) × AreSaidInOrder checked said × AreCheckLines sources said text

abbrev pub IsCheckText : Sources → Checked → List ℕ → Type 0
IsCheckText sources checked text = IsTextBy (says_nothing checked) sources checked text

-- the check of the run: exactly the unsafe receipts are said, and those that a restart undid and that leave orphans, and the run is safe
-- where no receipt is unsafe
pub record IsChecked (run : RunParts) (checked : Checked) : Type 0 where
  pub says : SaysUnsafe run 0 run.entries checked.unsafe_receipts.items
  pub safe : (checked.unsafe_receipts.items ≡ []) ↔ IsSafe (run_of run)
  pub undone : SaysUndone run 0 run.entries checked.undone_receipts.items

-- what a check leaves in the writer
abbrev pub PutsChecked : RunParts → Sources → Option (List ℕ) → Option (List ℕ) → Result Checked OutputFault → Type 0
PutsChecked run sources = PutsOut (λ checked text. IsChecked run checked × IsCheckText sources checked text)
