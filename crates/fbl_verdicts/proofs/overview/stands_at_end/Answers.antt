use Rattle.fbl_verdicts.proofs.Common.{◌≡◌, ◌↔◌, true, subst}
use Rattle.fbl_runs.specs.Clocks.{cut_of}
use Rattle.fbl_runs.specs.Entries.{log_of}
use Rattle.fbl_runs.specs.Moments.{Cut, Stands, last_cut}
use Rattle.fbl_verdicts.proofs.overview.stands_at_end.Goals as goal

pub returns : goal.returns
returns c i at_i =
    let logs = log_of c.args.pasts.now.entries in
    let end : cut_of c.last-last.result ≡ last_cut logs = (λ x q. c.last-last.ensures q x) in
    subst (λ (cut : Cut). (c.stands.result ≡ true) ↔ Stands logs cut i) end (c.stands.ensures i at_i)
