-- The picture of a recorded run: what an audit finds of it, or what a check says first, of an unsafe receipt or of one that a restart undid.
use Rattle.std.specs.Prelude.{ℕ, ◌≡◌, ◌<◌, ◌≤◌, ◌⊎◌, ◌-◌, nat_lt, List, [], ◌∷◌, ◌++◌, Option, Some, None, length, codes, decimal, if◌then◌else◌}
use Rattle.fbl_runs.specs.Sources.{IsSpotText}
use Rattle.fbl_runs.specs.declared.sources.Sources.{Sources}
use Rattle.fbl_judge.specs.Audits.{IsAudit, end_of}
use Rattle.fbl_judge.specs.Undone.{IsSaidUndone, LeavesOrphans}
use Rattle.fbl_judge.specs.Unsafe.{IsFirstUnsafe, IsReceiptPlace, IsUnsafe}
use Rattle.fbl_judge.specs.declared.audit.Audit.{Audit}
use Rattle.fbl_judge.specs.declared.check.UnsafeReceipt.{UnsafeReceipt}
use Rattle.fbl_judge.specs.declared.undone.UndoneReceipt.{UndoneReceipt}
use Rattle.fbl_history.specs.declared.shape.Glyph.{Glyph}
use Rattle.fbl_history.specs.declared.shape.Shape.{Shape}
use Rattle.fbl_runs.specs.Clocks.{cut_of}
use Rattle.fbl_runs.specs.HappenedBefore.{Position}
use Rattle.fbl_runs.specs.Logs.{RunParts, run_of}
use Rattle.fbl_runs.specs.Runs.{IsOrphanAt, IsSafe}
use Rattle.fbl_runs.specs.declared.judged.Judged.{Judged}
use Rattle.fbl_runs.specs.declared.judged.Judged.TheVariants.{AtEachMoment, AtItsEnd}
use Rattle.fbl_pictures.specs.declared.run.finding.Finding.{Finding}
use Rattle.fbl_pictures.specs.Headings.{audit_words, escaped, heading, joined, part_words, undone_words, unsafe_words}
use Rattle.fbl_pictures.specs.Pictures.{IsPictureText}
use Rattle.fbl_pictures.specs.RunShapes.{IsDrawnOf, shown_entries}
use Rattle.fbl_pictures.specs.Windows.{window_around}
use Rattle.fbl_pictures.specs.declared.run.window.Window.{Window}

-- what a picture counts
abbrev pub things : Judged → List ℕ
things AtItsEnd = codes "events"
things AtEachMoment = codes "entries"

-- how many there are, and which of them are drawn if these are a part
abbrev pub counted : Window → ℕ → List ℕ → List ℕ
counted w count things = if w.is_numbered then part_words things w.first (w.end - 1) count else joined (decimal count ∷ codes " " ∷ things ∷ [])

-- the numbers of the run, and what is said of it
abbrev pub run_heading : RunParts → Window → List ℕ → List ℕ
run_heading run w words = heading run.members run.f (counted w (length (shown_entries run)) (things run.judged)) words

-- the part of the run that is drawn: the entries around this place, or all
abbrev pub window_of : RunParts → Option ℕ → Window
window_of run around = window_around (length (shown_entries run)) around

-- the text is the picture of what is found around the place, or of all of it, with these words
pub record IsFindingText (run : RunParts) (around : Option ℕ) (finding : Finding) (words text : List ℕ) : Type 0 where
  pub shapes : List Shape
  pub glyphs : List Glyph
  pub drawn : IsDrawnOf run (window_of run around) finding shapes glyphs
  pub written : IsPictureText (run_heading run (window_of run around) words) shapes glyphs text

-- an audit finds who is struck, the orphans, and the lost receipts, at the run's end, where all has come
pub record IsAuditFinding (run : RunParts) (audit : Audit) (finding : Finding) : Type 0 where
  pub strike : finding.strike ≡ run.strike
  pub orphans : finding.orphans ≡ audit.orphans
  pub receipts : finding.receipts.now ≡ audit.lost.items
  pub at : finding.at ≡ None
  pub moment : (q : ℕ) → cut_of finding.moment q ≡ end_of run q

-- the text is the picture of the run by its audit
abbrev pub IsAuditedPicture : RunParts → Option ℕ → List ℕ → Type 0
IsAuditedPicture run around text =
    (audit : Audit) × IsAudit run audit × (finding : Finding) × IsAuditFinding run audit finding
    × IsFindingText run around finding (audit_words run.strike (length audit.lost.items) audit.orphans) text

-- a check finds what it says of a receipt, at the moment of which it is said
pub record IsUnsafeFinding (said : UnsafeReceipt) (finding : Finding) : Type 0 where
  pub strike : finding.strike ≡ said.strike
  pub orphans : finding.orphans ≡ said.orphans
  pub receipts : finding.receipts.now ≡ record { place = said.place; determinant = said.determinant } ∷ []
  pub at : finding.at ≡ said.at
  pub moment : finding.moment ≡ said.moment

-- the words for the moment of a receipt, as they may stand in XML: where its place is in these files
abbrev pub IsPlaceText : Sources → Option ℕ → List ℕ → Type 0
IsPlaceText sources None text = text ≡ []
IsPlaceText sources (Some place) text = (spot : List ℕ) × IsSpotText sources place spot × (text ≡ codes " at " ++ escaped spot)

-- the text is the picture of the run, whose entries stand in these files, with what is said of an unsafe receipt
abbrev pub IsUnsafePicture : RunParts → Sources → Option ℕ → UnsafeReceipt → List ℕ → Type 0
IsUnsafePicture run sources around said text =
    (place : List ℕ) × IsPlaceText sources said.at place × (finding : Finding) × IsUnsafeFinding said finding
    × IsFindingText run around finding (unsafe_words said.determinant place said.strike said.orphans) text

-- a check finds what it says of a receipt that a restart undid, at the run's end
pub record IsUndoneFinding (run : RunParts) (said : UndoneReceipt) (finding : Finding) : Type 0 where
  pub strike : finding.strike ≡ run.strike
  pub orphans : finding.orphans ≡ said.orphans
  pub receipts : finding.receipts.now ≡ record { place = said.place; determinant = said.determinant } ∷ []
  pub at : finding.at ≡ None
  pub moment : (q : ℕ) → cut_of finding.moment q ≡ end_of run q

-- a run of so many entries whose check says something is drawn around the place that is asked for, or the one that the check names if there
-- are more than 200
abbrev pub drawn_around : ℕ → Option ℕ → Option ℕ → Option ℕ
drawn_around count (Some place) at = Some place
drawn_around count None at = if nat_lt 200 count then at else None

-- the text is the picture of the run, whose entries stand in these files, with what is said of a receipt that a restart undid
abbrev pub IsUndonePicture : RunParts → Sources → Option ℕ → UndoneReceipt → List ℕ → Type 0
IsUndonePicture run sources asked said text =
    (place : List ℕ) × IsPlaceText sources (Some said.at) place × (finding : Finding) × IsUndoneFinding run said finding
    × IsFindingText run (drawn_around (length (shown_entries run)) asked (Some said.at)) finding (undone_words said.determinant place said.orphans) text

-- ---- what a check says first

-- the strike set leaves an orphan at the end at which the run is judged
abbrev pub HasOrphan : RunParts → Type 0
HasOrphan run = (run.judged ≡ AtItsEnd) × ((q : ℕ) × IsOrphanAt (run_of run) (end_of run) run.strike q)

-- none of the run's receipts was undone by a restart and leaves orphans
abbrev pub LeavesNone : RunParts → Type 0
LeavesNone run = (place : ℕ) (i : Position) → IsReceiptPlace run place i → ¬ (LeavesOrphans run i)

-- it is said of the first one that was
pub record IsFirstUndone (run : RunParts) (said : UndoneReceipt) : Type 0 where
  pub says : (i : Position) × IsSaidUndone run i said
  pub none : (place : ℕ) (i : Position) → place < said.place → IsReceiptPlace run place i → ¬ (LeavesOrphans run i)

-- the check of the run says nothing: it is safe, and none of the receipts of a log was undone and leaves orphans
abbrev pub SaysNothing : RunParts → Type 0
SaysNothing run = IsSafe (run_of run) × ((run.judged ≡ AtItsEnd) ⊎ LeavesNone run)

-- the first line of the check is of this unsafe receipt: of a log no receipt before it was undone and leaves orphans
pub record IsUnsafeFirst (run : RunParts) (said : UnsafeReceipt) : Type 0 where
  pub first : IsFirstUnsafe run said
  pub none : (run.judged ≡ AtItsEnd) ⊎ ((place : ℕ) (i : Position) → place < said.place → IsReceiptPlace run place i → ¬ (LeavesOrphans run i))

-- the first line of the check of a log is of this receipt that a restart undid: neither it nor one before it is unsafe
pub record IsUndoneFirst (run : RunParts) (said : UndoneReceipt) : Type 0 where
  pub judged : run.judged ≡ AtEachMoment
  pub first : IsFirstUndone run said
  pub safe : (place : ℕ) (i : Position) → place ≤ said.place → IsReceiptPlace run place i → ¬ (IsUnsafe (run_of run) i)

-- the text is the picture of the run, whose entries stand in these files, around the place if one is asked for: by its audit where its
-- strike set leaves an orphan at the end at which it is judged, or its check says nothing, and else with what its check says first
abbrev pub IsRunPicture : RunParts → Sources → Option ℕ → List ℕ → Type 0
IsRunPicture run sources asked text =
    ((HasOrphan run ⊎ SaysNothing run) × IsAuditedPicture run asked text)
    ⊎ (¬ (HasOrphan run)
    × ((said : UnsafeReceipt) × IsUnsafeFirst run said
    × IsUnsafePicture run sources (drawn_around (length (shown_entries run)) asked said.at) said text))
    ⊎ ((said : UndoneReceipt) × IsUndoneFirst run said × IsUndonePicture run sources asked said text)
