-- What is told beside an audit or a check: why receipts are lost, unsafe or undone.
use Rattle.std.specs.Prelude.{◌≡◌, [], List, None}
use Rattle.std.specs.List.{AllZip}
use Rattle.fbl_runs.specs.declared.sources.Sources.{Sources}
use Rattle.fbl_judge.specs.Reasons.{AreLossReasons, AreUnsafeReasons}
use Rattle.fbl_judge.specs.declared.audit.LostReceipt.{LostReceipt}
use Rattle.fbl_judge.specs.declared.reason.Reason.{Reason}
use Rattle.fbl_verdicts.specs.Forgotten.{AreForgotten}
use Rattle.fbl_verdicts.specs.Overviews.{IsOverviewOf}
use Rattle.fbl_verdicts.specs.UndoneReasons.{AreUndoneReasons}
use Rattle.fbl_verdicts.specs.declared.check_text.Checked.{Checked}
use Rattle.fbl_verdicts.specs.declared.run_explanation.RunExplanation.{RunExplanation}
use Rattle.fbl_verdicts.specs.declared.forgotten.Forgotten.{Forgotten}
use Rattle.fbl_runs.specs.Logs.{RunParts}
use Rattle.fbl_runs.specs.declared.entry.Entry.{Entry}

-- for each reason the restarts in which members forgot its receipt
abbrev pub AreAllForgotten : List Entry → List Reason → List Forgotten → Type 0
AreAllForgotten entries reasons forgotten = AllZip (λ reason f. AreForgotten entries reason f.restarts.items) reasons forgotten

-- it is of the run, whose entries stand there, and has the reason of each lost receipt, and no other
pub record ExplainsLosses (run : RunParts) (sources : Sources) (lost : List LostReceipt) (told : RunExplanation) : Type 0 where
  pub same_run : told.run.now ≡ run
  pub same_sources : told.sources ≡ sources
  pub overview : told.overview ≡ None
  pub reasons : AreLossReasons run lost told.reasons.items
  pub forgotten : AreAllForgotten run.entries told.reasons.items told.forgotten.items
  pub undone : told.undone.items ≡ []

-- it is of the run, whose entries stand there, has the overview, and has the reason of each receipt that the check names
pub record ExplainsCheck (run : RunParts) (sources : Sources) (checked : Checked) (told : RunExplanation) : Type 0 where
  pub same_run : told.run.now ≡ run
  pub same_sources : told.sources ≡ sources
  pub overview : IsOverviewOf run checked told.overview
  pub reasons : AreUnsafeReasons run checked.unsafe_receipts.items told.reasons.items
  pub forgotten : AreAllForgotten run.entries told.reasons.items told.forgotten.items
  pub undone : AreUndoneReasons run checked.undone_receipts.items told.undone.items
