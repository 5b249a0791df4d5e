use Rattle.fbl_judge.proofs.Common.{List, Entry, ap, sym, subst, ◌≡◌, ◌∙◌}
use Rattle.fbl_runs.specs.Clocks.{StandsAt}
use Rattle.fbl_runs.specs.Logs.{RunParts}
use Rattle.fbl_judge.proofs.pasts.Pasts.number.Goals as goal

pub returns : goal.returns
returns c i stands =
    let same : c.self.inside.index ≡ c.args.self.now.entries = c.self.invariant.index ∙ ap (λ (run : RunParts). run.entries) c.self.view_is in
    (c.link.ensures i (subst (λ (es : List Entry). StandsAt es c.args.place i) (sym same) stands)).number
