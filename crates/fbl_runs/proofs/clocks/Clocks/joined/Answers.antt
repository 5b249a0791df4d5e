use Rattle.fbl_runs.proofs.Common.{◌∙◌, ap, max}
use Rattle.fbl_runs.specs.Clocks.{cut_of}
use Rattle.fbl_runs.proofs.clocks.Clocks.joined.Goals as goal

pub returns : goal.returns
returns c entries p are has below =
    let message = c.join_predecessor.ensures entries p are has below.1 in
    let begins = c.join_predecessor-2.ensures entries p are has below.2 in (
      cut_of c.predecessor_clock-clock.result,
      message.0,
      begins.0,
      c.predecessor_clock-clock.ensures entries p are has below.0,
      message.1,
      begins.1,
      λ q. begins.2 q ∙ ap (λ k. max k (begins.0 q)) (message.2 q),
    )
