use Rattle.fbl_judge.proofs.Common.{Entry, List, subst, sym, ◌∙◌}
use Rattle.fbl_runs.specs.Rules.{AreLawful}
use Rattle.fbl_judge.proofs.pasts.Pasts.of.Goals as goal

pub of-requires : goal.of-requires
of-requires c =
    let run = c.args.run.now in
    (run.members, subst (λ (es : List Entry). AreLawful run.members es) (sym c.entries-entries.ensures.entries) c.entries-entries.ensures.rules.lawful.lawful)

pub of-requires-3 : goal.of-requires-3
of-requires-3 c =
    let run = c.args.run.now in
    (run.members, subst (λ (es : List Entry). AreLawful run.members es) (sym (c.in_ok-index.ensures ∙ c.entries-entries.ensures.entries)) c.entries-entries.ensures.rules.lawful.lawful)

pub dependences_of-requires : goal.dependences_of-requires
dependences_of-requires c =
    let run = c.args.run.now in
    (run.members, subst (λ (es : List Entry). AreLawful run.members es) (sym (c.in_ok-index.ensures ∙ c.entries-entries.ensures.entries)) c.entries-entries.ensures.rules.lawful.lawful)
