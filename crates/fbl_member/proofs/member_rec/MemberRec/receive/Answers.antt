use Rattle.fbl_member.proofs.Common.{◌≡◌, ◌++◌, ◌≤◌, ℕ, Ok, Err, MatchResult, Result, ap, arith, length, refl, HasRooms, Buffers}
use Rattle.fbl_member.proofs.Logs.{bounded, numbered-more}
use Rattle.fbl_member.proofs.member_rec.MemberRec.receive.Goals as goal
use Rattle.fbl_member.proofs.member_rec.MemberRec.receive.Goals.{After-unwrap}
use Rattle.fbl_member.proofs.member_rec.MemberRec.receive.Given.{Over}

-- the log with the step's sends at its end
grown : (g : Over) (c : After-unwrap g) → c.extend_from_slice.new.self.items ≡ c.self.inside.log.items ++ c.args.outcome.now.sends.items
grown g c = rw (c.in_ok-reserve.ensures.items, c.as_slice-sends.ensures.value) at (rw c.unwrap.ensures at c.extend_from_slice.ensures.items)

-- room for this many entries is room for fewer
fewer : {N : Type 0} {messages more less : ℕ} {b : Buffers N} → HasRooms messages more b → less ≤ more → HasRooms messages less b
fewer rooms le = record { wires = rooms.wires; count = rooms.count; lists = λ k d below. (let r = rooms.lists k d below in (r.0, r.1, omega (arith, r.2, le))) }

pub into_wires-requires-clause-numbers : goal.into_wires-requires-clause-numbers
into_wires-requires-clause-numbers g c = omega (arith, c.sent-before.ensures.value, ap length c.as_slice-sends.ensures.value, c.requires.sends)

pub into_wires-requires-clause-rooms : goal.into_wires-requires-clause-rooms
into_wires-requires-clause-rooms g c = fewer c.in_ok-buffers.ensures (rw c.in_ok-learn_and_note.ensures.ok (c.room_to_piggyback-most.ensures.enough c.args.me c.next_determinant-determinant.result))

pub invariant_of-self-2 : goal.invariant_of-self-2
invariant_of-self-2 g c =
    bounded c.self.inside.received c.number.result c.ssn.result c.self.inside.last c.self.inside.log.items _ _ c.self.invariant.0 (rw (← c.self.view_is) at c.requires.receipts) (grown g (goal.at.invariant_of-self-2 g c).After-unwrap) (rw (← c.self.view_is) at c.requires.sends)

pub returns-clause-received : goal.returns-clause-received
returns-clause-received g c =
    rw (← c.self.view_is, grown g (goal.at.returns-clause-received g c).After-unwrap, numbered-more, c.in_ok-learn_and_note.ensures.ok, c.next_determinant-determinant.ensures) (rw (c.carried-carried.ensures.value, c.number.ensures.value, c.from.ensures, c.ssn.ensures, ← c.self.view_is) refl)

pub returns-clause-sent : goal.returns-clause-sent
returns-clause-sent g c = rw (c.sent-before.ensures.value, c.as_slice-sends.ensures.value) at c.into_wires.ensures

pub invariant_of-self : goal.invariant_of-self
invariant_of-self g c = (c.self.invariant.0, c.self.invariant.1, rw c.reserve.ensures.items c.self.invariant.2)

pub invariant_of-self-in_err-learn_and_note : goal.invariant_of-self-in_err-learn_and_note
invariant_of-self-in_err-learn_and_note g c = (c.self.invariant.0, c.self.invariant.1, rw c.reserve.ensures.items c.self.invariant.2)

on_err : {P T E : Type 0} (r : Result T E) → P → MatchResult r (λ _. Unit {0}) (λ _. P)
on_err {P} r is = elim r as (λ r. MatchResult r (λ _. Unit {0}) (λ _. P)) [ Ok _ ↦ tt | Err _ ↦ is ]

pub returns-in_err-reserve-clause-unchanged : goal.returns-in_err-reserve-clause-unchanged
returns-in_err-reserve-clause-unchanged g c = rw (← c.self.view_is, c.reserve.ensures.items) (on_err c.from_residual-in_err-reserve.result refl)

pub returns-in_err-learn_and_note-clause-unchanged : goal.returns-in_err-learn_and_note-clause-unchanged
returns-in_err-learn_and_note-clause-unchanged g c =
    rw (← c.self.view_is, c.reserve.ensures.items, c.in_err-learn_and_note.ensures.unchanged) (on_err c.from_residual-in_err-learn_and_note.result refl)

pub learn_and_note-requires-clause-table : goal.learn_and_note-requires-clause-table
learn_and_note-requires-clause-table g c = rw (c.next_determinant-determinant.ensures, ← c.self.view_is) (rw (← c.self.view_is) at c.requires.not_held)

pub learn_and_note-requires-clause-carried : goal.learn_and_note-requires-clause-carried
learn_and_note-requires-clause-carried g c = rw (c.carried-carried.ensures.value, c.next_determinant-determinant.ensures) c.requires.not_carried
