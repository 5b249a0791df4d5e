use Rattle.fbl_history.proofs.Common.{◌≡◌, ap, ◌∙◌, sym, arith, refl, Settings, MemberRecord, logged_note, rules}
use Rattle.fbl_history.proofs.Following.{IsNextReceipt, sender, may-follow, is-next, received-few, receiver-read, has-note, note-read, has-room, state-is, past-receipt}
use Rattle.fbl_history.proofs.states.replay.Goals as goal
use Rattle.fbl_history.proofs.states.replay.Goals.{After-recoverable, After-log_note, After-members}
use Rattle.fbl_history.proofs.states.replay.Given.{Over}

known : (g : Over) (c : After-recoverable g) → IsNextReceipt g.B.Behaviour.next c.args.group.now c.args.members.now c.args.place c.args.receipt
known g c = record { sound = c.recoverable.ensures.sound; replayed = c.requires.before; here = c.requires.here }

-- the note is read in the sender's log
note-is : (g : Over) (c : After-log_note g) (is : IsNextReceipt g.B.Behaviour.next c.args.group.now c.args.members.now c.args.place c.args.receipt)
    → c.log_note.result ≡ logged_note (sender is).log c.args.receipt.ssn
note-is g c is = c.log_note.ensures ∙ note-read is c.index-members-sender.result (c.from-sender.ensures ∙ c.number.ensures.value)

size : (g : Over) (c : After-members g) → c.members.result ≡ c.args.group.now.config.members
size g c = c.members.ensures.value ∙ ap (λ (x : Settings _). x.members) c.config.ensures

pub bounds-members-sender : goal.bounds-members-sender
bounds-members-sender g c =
    let may = may-follow (known g (goal.at.bounds-members-sender g c).After-recoverable) in
    omega (arith, may.0, c.requires.before.size, c.number.ensures.value, c.from-sender.ensures)

pub unwrap-note-requires : goal.unwrap-note-requires
unwrap-note-requires g c =
    let at = goal.at.unwrap-note-requires g c in
    let is = known g at.After-recoverable in
    rw (note-is g at.After-log_note is ∙ (has-note is).1) refl

pub bounds-members-from : goal.bounds-members-from
bounds-members-from g c =
    let may = may-follow (known g (goal.at.bounds-members-from g c).After-recoverable) in
    omega (arith, may.1, c.requires.before.size, c.number-2.ensures.value, c.from.ensures)

pub replay_one-requires : goal.replay_one-requires
replay_one-requires g c =
    let at = goal.at.replay_one-requires g c in
    let is = known g at.After-recoverable in
    let read = receiver-read is c.index-members-from.result (c.from.ensures ∙ c.number-2.ensures.value) in
    let note = sym (note-is g at.After-log_note is) ∙ c.unwrap-note.ensures in
    record {
      least = search rules;
      most = search rules;
      member = omega (arith, (may-follow is).1, size g at.After-members);
      to_me = refl;
      next = rw read (is-next is);
      receipts = rw read (received-few is);
      sends = rw (read, size g at.After-members) (has-room is note);
    }

pub returns : goal.returns
returns g c =
    let at = goal.at.returns g c in
    let is = known g at.After-recoverable in
    let note = sym (note-is g at.After-log_note is) ∙ c.unwrap-note.ensures in
    let place : c.from.result ≡ c.args.receipt.to = c.from.ensures ∙ c.number-2.ensures.value in
    let read = receiver-read is c.index-members-from.result place in
    let after = rw (size g at.After-members, read) at c.in_ok-replay_one.ensures.replayed in
    record { state = c.state.ensures ∙ ap (λ (m : MemberRecord _ _). m.state) after ∙ state-is is note; after = rw (place, after) (past-receipt is note) }
