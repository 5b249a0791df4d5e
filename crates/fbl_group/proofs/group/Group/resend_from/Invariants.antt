use Rattle.fbl_group.proofs.Common.{◌≡◌, [], map, IfSome, deque_items, piggybacked, working, sent_again, Made}
use Rattle.fbl_group.proofs.group.Group.resend_from.Given as goal

abbrev pub invariant-loop-number : goal.invariant-loop-number
invariant-loop-number g l = record {
  made : Made [] (λ p c. c ≡ sent_again l.self.config.f l.self.down (working l.self l.rebuilt) l.from p) l.number (map deque_items l.row.items);
  passed : IfSome l.passed (λ carried. carried ≡ piggybacked l.self.config.f (working l.self l.rebuilt l.from).table);
}
