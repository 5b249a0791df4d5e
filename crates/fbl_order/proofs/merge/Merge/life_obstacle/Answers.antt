use Rattle.fbl_order.proofs.Common.{◌≡◌, ◌∙◌, ℕ, Bool, Entry, Knows, IsFirstAfter, IsNextAt, false≢true, get_or, arith, entry_member, placed_of, subst, sym}
use Rattle.fbl_order.specs.Faults.{HasAllOf}
use Rattle.fbl_order.proofs.MergeLaws.{cursor-next}
use Rattle.fbl_order.proofs.Obstacles.{has_all, passes_one}
use Rattle.fbl_order.proofs.Own.{cursor_at}
use Rattle.fbl_order.proofs.merge.Merge.life_obstacle.Goals as goal

pub returns-then-not-lacks_message-clause-hinders : goal.returns-then-not-lacks_message-clause-hinders
returns-then-not-lacks_message-clause-hinders c n broken =
    let run = placed_of c.args.entries.now c.args.self.now in
    let known = subst (λ (b : Bool). Knows b run c.args.self.now.known) c.requires.lived c.requires.merges.1.known in
    let says = c.lacks_message.ensures n run known broken in
    (broken, λ sent misses. absurd (false≢true (sym c.if-not-lacks_message.true ∙ says.1 misses.0)))

pub returns-in_default-clause-hinders : goal.returns-in_default-clause-hinders
returns-in_default-clause-hinders c n broken = (broken, λ sent misses. absurd (c.in_default.ensures sent misses.1))

-- the next entry of the sender
next_sent : (c : goal.Then-next-entries) → IsNextAt c.args.entries.now c.args.self.now (get_or c.args.self.now.cursors c.number.result 0)
    × IsFirstAfter c.args.entries.now (placed_of c.args.entries.now c.args.self.now) (entry_member c.in-Some.sent) (get_or c.args.self.now.cursors c.number.result 0)
next_sent c =
    let entries = c.args.entries.now in
    let merge = c.args.self.now in
    let merges = c.requires.merges.1 in
    let sent : Entry = c.in-Some.sent in
    let cursor = cursor_at entries merge.cursors merges.cursors.room c.number.result (entry_member sent) c.number.ensures.bound (c.number.ensures.value ∙ c.member.ensures) in
    let next = cursor-next c.requires.merges.0 entries merge merges (entry_member sent) (omega (arith, cursor, c.if-next-entries.true)) in
    ((rw cursor next.0), (rw cursor next.1))

pub returns-then-next-entries-clause-hinders : goal.returns-then-next-entries-clause-hinders
returns-then-next-entries-clause-hinders c n broken =
    let run = placed_of c.args.entries.now c.args.self.now in
    let known = subst (λ (b : Bool). Knows b run c.args.self.now.known) c.requires.lived c.requires.merges.1.known in
    let says = c.lacks_message.ensures n run known broken in
    let sent : Entry = c.in-Some.sent in
    (sent, (says.0 c.if-not-lacks_message.false, c.in-Some.ensures), c.has_entry.ensures.0 c.if-not-has_entry.false, (next_sent c).1)

pub returns-then-next-entries-clause-next : goal.returns-then-next-entries-clause-next
returns-then-next-entries-clause-next c place is =
    let same : get_or c.args.self.now.cursors c.number.result 0 ≡ place = cc in
    subst (λ (k : ℕ). IsNextAt c.args.entries.now c.args.self.now k) same (next_sent c).0

pub returns-clause-hinders : goal.returns-clause-hinders
returns-clause-hinders c n broken = (
  broken,
  λ sent misses.
      let entries = c.args.entries.now in
      let merge = c.args.self.now in
      let merges = c.requires.merges.1 in
      let mine : Entry = c.in-Some.sent in
      let cursor = cursor_at entries merge.cursors merges.cursors.room c.number.result (entry_member mine) c.number.ensures.bound (c.number.ensures.value ∙ c.member.ensures) in
      subst (λ (x : Entry). HasAllOf entries (placed_of entries merge) (entry_member x)) (passes_one mine sent c.args.entry.now c.in-Some.ensures misses.1)
      (has_all c.requires.merges.0 entries merge merges (entry_member mine) (omega (arith, cursor, c.if-next-entries.false))),
)
