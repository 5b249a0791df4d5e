use Rattle.std.proofs.Common.{◌∙◌, sym, subst}
use Rattle.fbl_behaviours.specs.Commits.{HasAborted, commit_agrees}
use Rattle.fbl_examples.proofs.commits.agreed.Goals as goal

pub returns : goal.returns
returns c a b below_a below_b up_a up_b committed aborted =
    let seen = c.upheld.ensures in
    commit_agrees c.args.group.now.config seen.network seen.law a b below_a below_b (seen.survivors.states a up_a ∙ committed) (subst HasAborted (sym (seen.survivors.states b up_b)) aborted)
