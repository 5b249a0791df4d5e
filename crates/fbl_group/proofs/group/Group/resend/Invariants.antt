use Rattle.fbl_group.proofs.Common.{each, ◌≡◌, ℕ, ◌<◌, [], length, deque_items, slice_index_or, working, sent_again, Made}
use Rattle.fbl_group.proofs.group.Group.resend.Given as goal

abbrev pub invariant-loop-number : goal.invariant-loop-number
invariant-loop-number g l = Made [] (λ q row. (length row ≡ l.self.config.members) × ((p : ℕ) → p < l.self.config.members
    → slice_index_or row p [] ≡ sent_again l.self.config.f l.self.down (working l.self l.rebuilt) q p)) l.number (each deque_items l.rows.items)
