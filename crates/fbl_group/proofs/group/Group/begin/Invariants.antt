use Rattle.fbl_group.proofs.Common.{◌≡◌, ℕ, ◌≤◌, true, blank, knowledge, member_checkpoint, recovery_table, Made, contains}
use Rattle.fbl_group.proofs.group.Group.begin.Given as goal

-- while a member from here on is down, the table is left
abbrev pub invariant-loop-number : goal.invariant-loop-number
invariant-loop-number g l = record {
  made : Made (blank l.self.outside) (λ p x. contains l.self.down p ≡ true → x ≡ record (member_checkpoint l.self p) { table = recovery_table (knowledge l.self) }) l.number l.rebuilt.items;
  left : (p : ℕ) → l.number ≤ p → contains l.self.down p ≡ true → l.gathered ≡ recovery_table (knowledge l.self);
}
