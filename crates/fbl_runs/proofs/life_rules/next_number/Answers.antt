use Rattle.fbl_runs.proofs.Common.{◌∙◌, sym, ap, log_of}
use Rattle.fbl_runs.specs.Rules.{is_receipt, is_send, next_in}
use Rattle.fbl_runs.proofs.FewLaws.{next_small}
use Rattle.fbl_runs.proofs.life_rules.next_number.Goals as goal
use Rattle.fbl_runs.proofs.life_rules.next_number.Goals.{in-Send, in-Receipt}

pub returns : goal.returns
returns c before has few = elim c.match-event.branch [
  | in-Send w ↦
      next_small is_send before w.in-Send.from c.match-event.count c.saturating_add.result w.standing.result.now (w.standing.ensures before has) (w.count-is ∙ w.sends_among-count.ensures) few c.saturating_add.ensures
      ∙ ap (next_in (log_of before)) (sym w.in-Send.is)
  | in-Receipt w ↦
      next_small is_receipt before w.in-Receipt.to c.match-event.count c.saturating_add.result w.standing-in-Receipt.result.now (w.standing-in-Receipt.ensures before has) (w.count-is ∙ w.receipts_among-count.ensures) few
      c.saturating_add.ensures
      ∙ ap (next_in (log_of before)) (sym w.in-Receipt.is)
]
