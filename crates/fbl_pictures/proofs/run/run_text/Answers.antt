use Rattle.fbl_pictures.proofs.Common.{◌∙◌, ap, sym}
use Rattle.fbl_runs.specs.Logs.{RunParts}
use Rattle.fbl_pictures.proofs.run.run_text.Goals as goal

pub end_text-requires-clause-judged : goal.end_text-requires-clause-judged
end_text-requires-clause-judged c = ap (λ (run : RunParts). run.judged) (sym c.run.ensures.run) ∙ sym c.judged.ensures ∙ c.in-AtItsEnd.is

pub moment_text-requires-clause-judged : goal.moment_text-requires-clause-judged
moment_text-requires-clause-judged c = ap (λ (run : RunParts). run.judged) (sym c.run.ensures.run) ∙ sym c.judged.ensures ∙ c.in-AtEachMoment.is
