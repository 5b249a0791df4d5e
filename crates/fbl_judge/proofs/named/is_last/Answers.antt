use Rattle.fbl_judge.proofs.Common.{◌∙◌, ap, sym, false≢true}
use Rattle.std.proofs.Common.{not}
use Rattle.fbl_judge.proofs.Restarts.{restart_at}
use Rattle.fbl_judge.proofs.named.is_last.Goals as goal
use Rattle.fbl_judge.proofs.named.is_last.Goals.{then-has_come, else-has_come}

pub returns-then-not-precedes : goal.returns-then-not-precedes
returns-then-not-precedes c j r at_j at_r = elim c.if-has_come.branch [
  | then-has_come w ↦
      let there = restart_at c.args.pasts.now.entries c.args.restart r c.requires.restart at_r in
      let latest = c.is_latest.ensures r at_r in (
        λ h. record {
          come = (there.0, there.1, (c.has_come.ensures r at_r).0 w.if-has_come.true);
          after = λ path. false≢true (sym (ap not ((w.precedes.ensures r j at_r at_j).1 path)) ∙ sym w.value-is ∙ c.if-not-precedes.true);
          last = latest.0 h;
        },
        λ is. latest.1 is.last,
      )
  | else-has_come w ↦ absurd (false≢true (sym w.if-has_come.false ∙ sym w.value-is ∙ c.if-not-precedes.true))
]
