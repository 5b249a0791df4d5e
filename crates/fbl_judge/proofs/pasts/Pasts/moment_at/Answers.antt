use Rattle.fbl_judge.proofs.Common.{Entry, HappenedBefore, List, ap, subst, sym, ◌≡◌, ◌∙◌}
use Rattle.fbl_runs.specs.Clocks.{cut_of}
use Rattle.fbl_runs.specs.Logs.{RunParts}
use Rattle.fbl_runs.specs.Precedence.{AreClocks}
use Rattle.fbl_judge.specs.Views.{IsPastAndStepAt}
use Rattle.fbl_judge.proofs.pasts.Pasts.moment_at.Goals as goal

pub returns : goal.returns
returns c =
    let same : c.self.inside.index ≡ c.args.self.now.entries = c.self.invariant.index ∙ ap (λ (run : RunParts). run.entries) c.self.view_is in
    let clocks = subst (λ (es : List Entry). AreClocks HappenedBefore es c.self.inside.before) (sym c.self.invariant.index) c.self.invariant.before in
    subst (λ (es : List Entry). IsPastAndStepAt es c.args.place (cut_of c.past_and_step.result)) same (c.past_and_step.ensures clocks)
