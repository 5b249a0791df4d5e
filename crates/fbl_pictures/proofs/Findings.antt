-- The pictures of what an audit and a check find.
use Rattle.fbl_pictures.proofs.Common.{ℕ, List, Option, Some, ◌≡◌, length, subst, Glyph, IsPictureText, Shape}
use Rattle.fbl_runs.specs.declared.sources.Sources.{Sources}
use Rattle.fbl_judge.specs.Audits.{IsAudit}
use Rattle.fbl_judge.specs.declared.audit.Audit.{Audit}
use Rattle.fbl_judge.specs.declared.check.UnsafeReceipt.{UnsafeReceipt}
use Rattle.fbl_judge.specs.declared.undone.UndoneReceipt.{UndoneReceipt}
use Rattle.fbl_runs.specs.Logs.{RunParts}
use Rattle.fbl_pictures.specs.Headings.{audit_words, undone_words, unsafe_words}
use Rattle.fbl_pictures.specs.RunPictures.{IsAuditFinding, IsAuditedPicture, IsFindingText, IsPlaceText, IsUndoneFinding, IsUndonePicture, IsUnsafeFinding, IsUnsafePicture, drawn_around, run_heading, window_of}
use Rattle.fbl_pictures.specs.RunShapes.{IsDrawnOf, shown_entries}
use Rattle.fbl_pictures.specs.declared.run.window.Window.{Window}
use Rattle.fbl_pictures.specs.declared.run.finding.Finding.{Finding}

pub audited : (run : RunParts) (around : Option ℕ) (audit : Audit) (finding : Finding) (words text : List ℕ) → IsFindingText run around finding words text
    → words ≡ audit_words run.strike (length audit.lost.items) audit.orphans → IsAudit run audit → IsAuditFinding run audit finding → IsAuditedPicture run around text
audited run around audit finding words text drawn is audits found = (audit, audits, finding, found, subst (λ (w : List ℕ). IsFindingText run around finding w text) is drawn)

pub unsafe : (run : RunParts) (sources : Sources) (around : Option ℕ) (said : UnsafeReceipt) (finding : Finding) (words place text : List ℕ) → IsFindingText run around finding words text
    → words ≡ unsafe_words said.determinant place said.strike said.orphans → IsPlaceText sources said.at place → IsUnsafeFinding said finding
    → IsUnsafePicture run sources around said text
unsafe run sources around said finding words place text drawn is at found = (place, at, finding, found, subst (λ (w : List ℕ). IsFindingText run around finding w text) is drawn)

pub undone : (run : RunParts) (sources : Sources) (asked around : Option ℕ) (said : UndoneReceipt) (finding : Finding) (words place text : List ℕ) → IsFindingText run around finding words text
    → around ≡ drawn_around (length (shown_entries run)) asked (Some said.at) → words ≡ undone_words said.determinant place said.orphans → IsPlaceText sources (Some said.at) place
    → IsUndoneFinding run said finding → IsUndonePicture run sources asked said text
undone run sources asked around said finding words place text drawn there is at found = (
  place,
  at,
  finding,
  found,
  subst (λ (o : Option ℕ). IsFindingText run o finding (undone_words said.determinant place said.orphans) text) there (subst (λ (w : List ℕ). IsFindingText run around finding w text) is drawn),
)

-- what is drawn in the window around a place
pub drawn_in : (run : RunParts) (around : Option ℕ) (finding : Finding) (words text : List ℕ) (w : Window) (shapes : List Shape) (glyphs : List Glyph) → w ≡ window_of run around
    → IsDrawnOf run w finding shapes glyphs → IsPictureText (run_heading run w words) shapes glyphs text → IsFindingText run around finding words text
drawn_in run around finding words text w shapes glyphs is drawn written = record {
  shapes = shapes;
  glyphs = glyphs;
  drawn = subst (λ (w : Window). IsDrawnOf run w finding shapes glyphs) is drawn;
  written = subst (λ (w : Window). IsPictureText (run_heading run w words) shapes glyphs text) is written;
}
