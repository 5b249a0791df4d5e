use Rattle.fbl_judge.proofs.Common.{◌≡◌, ◌∙◌, ◌↔◌, ℕ, true, ap, subst, cut_of, log_of, Cut, DependsAt, Members, RunParts, last_cut}
use Rattle.std.specs.FinSet as set
use Rattle.fbl_judge.proofs.Audits.{left_orphans}
use Rattle.fbl_judge.proofs.undone.orphans_of.Goals as goal

pub returns : goal.returns
returns c i at_i q =
    let run = c.args.pasts.now in
    let end : cut_of c.last-last.result ≡ last_cut (log_of run.entries) = (λ x q. c.last-last.ensures q x) in
    let strike : c.strike.result ≡ run.strike = c.strike.ensures ∙ ap (λ (run : RunParts). run.strike) c.run.ensures.run in
    let depend = subst (λ (cut : Cut). (q : ℕ) → (set.contains c.dependents.result q ≡ true) ↔ DependsAt (log_of run.entries) cut i q) end (c.dependents.ensures i at_i) in
    left_orphans run (last_cut (log_of run.entries)) i c.dependents.result c.without.result (c.without.ensures ∙ ap (λ (s : Members). set.difference c.dependents.result s) strike) depend q
