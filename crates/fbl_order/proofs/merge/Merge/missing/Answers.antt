use Rattle.fbl_order.proofs.Common.{ℕ, Entry, ◌≡◌, ◌∙◌, false≢true, get_or, subst, sym, entry_member, placed_of, IsFirstAfter, IsNextAt}
use Rattle.fbl_runs.specs.ControlMessages.{Has}
use Rattle.fbl_order.proofs.MergeLaws.{cursor-next, cursor-within, has_placed, placed_has}
use Rattle.fbl_order.proofs.Own.{cursor_at}
use Rattle.fbl_order.proofs.merge.Merge.missing.Goals as goal

pub returns-then-has_entry-clause-hinders : goal.returns-then-has_entry-clause-hinders
returns-then-has_entry-clause-hinders c n e misses =
    let sent : Entry = c.args.sent in
    let entries = c.args.entries.now in
    let merge = c.args.self.now in
    let merges = c.requires.merges.1 in
    let cursor = cursor_at entries merge.cursors merges.cursors.room c.number.result (entry_member sent) c.number.ensures.bound (c.number.ensures.value ∙ c.member.ensures) in
    (sent, misses, has_placed c.requires.merges.0 entries merge merges sent (rw cursor at (c.has_entry.ensures.0 c.if-has_entry.true)))

-- the next entry of the sender, whose tell or send is not placed
pub next_sent : (c : goal.Else-not-has_entry) → (¬ (Has (placed_of c.args.entries.now c.args.self.now) c.args.sent))
    × IsNextAt c.args.entries.now c.args.self.now (get_or c.args.self.now.cursors c.number.result 0)
    × IsFirstAfter c.args.entries.now (placed_of c.args.entries.now c.args.self.now) (entry_member c.args.sent) (get_or c.args.self.now.cursors c.number.result 0)
next_sent c =
    let sent : Entry = c.args.sent in
    let entries = c.args.entries.now in
    let merge = c.args.self.now in
    let merges = c.requires.merges.1 in
    let n : ℕ = c.requires.merges.0 in
    let cursor = cursor_at entries merge.cursors merges.cursors.room c.number.result (entry_member sent) c.number.ensures.bound (c.number.ensures.value ∙ c.member.ensures) in
    let missing : ¬ (Has (placed_of entries merge) sent) = λ has. false≢true (sym c.if-has_entry.false ∙ c.has_entry.ensures.1 (rw cursor (placed_has n entries merge merges sent has))) in
    let next = cursor-next n entries merge merges (entry_member sent) (cursor-within n entries merge merges sent (c.has_entry-2.ensures.0 c.if-not-has_entry.false) missing) in
    (missing, (rw cursor next.0), (rw cursor next.1))

pub returns-clause-hinders : goal.returns-clause-hinders
returns-clause-hinders c n e misses =
    let next = next_sent c in
    (c.args.sent, misses, c.has_entry-2.ensures.0 c.if-not-has_entry.false, next.0, next.2)

pub returns-clause-next : goal.returns-clause-next
returns-clause-next c place is =
    let same : get_or c.args.self.now.cursors c.number.result 0 ≡ place = cc in
    subst (λ (k : ℕ). IsNextAt c.args.entries.now c.args.self.now k) same (next_sent c).1
