use Rattle.fbl_judge.proofs.Common.{ℕ, Option, Some, None, sym, subst, cut_of, log_of, run_of, DependsAt, Position, StandsAt}
use Rattle.std.proofs.Common.{MatchOption}
use Rattle.std.specs.Option.{unwrap_or}
use Rattle.fbl_judge.specs.Unsafe.{IsNamed}
use Rattle.fbl_judge.proofs.named.named_place.Goals as goal

-- what is found, where it is
found : (A : Type 0) (P : ℕ → Type 0) (o : Option ℕ) (d : ℕ) → MatchOption o (¬ A) P → A → P (unwrap_or o d)
found A P None d none is = absurd (none is)
found A P (Some p) d some is = some

pub returns : goal.returns
returns c i stands =
    let run = c.args.pasts.now in
    let P : ℕ → Type 0 = λ place. (k : Position) × StandsAt run.entries place k × IsNamed (run_of run) i c.args.member (cut_of c.args.moment.now) k in
    subst P (sym c.unwrap_or.ensures) (found (DependsAt (log_of run.entries) (cut_of c.args.moment.now) i c.args.member) P c.named_by.result c.args.receipt (c.named_by.ensures i stands) (c.requires.depends i stands))
