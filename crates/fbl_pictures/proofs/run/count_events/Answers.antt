use Rattle.fbl_pictures.proofs.Common.{ℕ, ◌≡◌, ◌≤◌, length, rules, subst, sym}
use Rattle.std.proofs.lemmas.List.Sums.{count_by-le-length}
use Rattle.std.specs.Prelude.{count_by}
use Rattle.fbl_pictures.specs.RunShapes.{is_event}
use Rattle.fbl_pictures.proofs.run.count_events.Goals as goal

pub returns-clause-within : goal.returns-clause-within
returns-clause-within c =
    let value : c.count.result ≡ count_by is_event c.args.entries.now = search rules in
    subst (λ (n : ℕ). n ≤ length c.args.entries.now) (sym value) (count_by-le-length is_event c.args.entries.now)
