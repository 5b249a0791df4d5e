-- Members that replay a trace come to its states.
use Rattle.fbl_history.proofs.Common.{◌≡◌, ℕ, ◌<◌, ◌≤◌, true, false, false_from_ne_true, zero, suc, [], cond, List, length, take, Some, refl, sym, ap, ◌∙◌, arith, nat_tests, mark_of, Next, MemberRecord, blank, logged_note}
use Rattle.fbl_history.proofs.Common.{GroupRecord, marks, IsSound, mark-at, HaveReplayed, ◌+◌, length-append, slice_get, slice_set, slice_index_or, take-take, length-set, get_or-set_same}
use Rattle.fbl_history.proofs.Common.{get_or-set_other, get_or_default, length-map, count_by-le-length, sum_by-take-le, Determinant, Note, Mark, At, is_receipt_of, is_send_of}
use Rattle.fbl_history.proofs.Common.{receipts_of, MayFollow, Progress, note_of, numbered, after_notes-state, receipts-step, sent-before, take-next, replayed_by, length-numbered, received_notes}
use Rattle.fbl_history.proofs.Common.{AllBelow, IsReplayed, filter, range_with_len, Members, send-at, filter-passes, logged-by, logged-noted, log-short, Has-receipts_at, replayed-step, state_after_receipt}
use Rattle.fbl_trace.specs.declared.trace.Event.TheVariants as event
use Rattle.std.specs.FinSet as set
use Rattle.fbl_trace.specs.declared.trace.Mark.TheVariants.{Send, Receipt}
use Rattle.fbl_trace.specs.MemberSets.{member_list}

-- how many receipts a member has with one event more
count-more : (t : List Mark) (i m : ℕ) (e : Mark) → At t i e → receipts_of (take (i + 1) t) m ≡ receipts_of (take i t) m + cond (is_receipt_of m e) 1 0
count-more t i m e here = ap (λ (u : List Mark). receipts_of u m) (take-next t i e here) ∙ receipts-step (take i t) e m

-- a member has no more receipts at an earlier place
count-earlier : (t : List Mark) (i j m : ℕ) → j ≤ i → receipts_of (take j t) m ≤ receipts_of (take i t) m
count-earlier t i j m before =
    omega (arith, sum_by-take-le (λ y. cond (is_receipt_of m y) 1 0) (take i t) j, ap (λ (u : List Mark). receipts_of u m) (take-take j i t before))

-- a send is no receipt
pub past_send : {next : Next ℕ Note} {r : GroupRecord ℕ Note} {members : List (MemberRecord ℕ Note)} {place : ℕ} → HaveReplayed next r place members
    → (from ssn to : ℕ) (note : Note) → slice_get r.trace place ≡ Some (event.Send from ssn to note) → HaveReplayed next r (place + 1) members
past_send {next} {r} {members} {place} replayed from ssn to note here = record {
  size = replayed.size;
  each = replayed.each;
  received = λ m below.
      omega (arith, replayed.received m below, count-more (marks r) place m (Send from ssn to) (mark-at r.trace place (event.Send from ssn to note) here));
}

-- the members of a sound group have replayed what comes before this receipt
pub record IsNextReceipt (next : Next ℕ Note) (r : GroupRecord ℕ Note) (members : List (MemberRecord ℕ Note)) (place : ℕ) (d : Determinant) : Type 0 where
  pub sound : IsSound next r
  pub replayed : HaveReplayed next r place members
  pub here : slice_get r.trace place ≡ Some (event.Receipt d.to d.rsn d.from d.ssn)

module _ {next : Next ℕ Note} {r : GroupRecord ℕ Note} {members : List (MemberRecord ℕ Note)} {place : ℕ} {d : Determinant} (known : IsNextReceipt next r members place d) where
  abbrev pub sender : MemberRecord ℕ Note
  sender = slice_index_or members d.from (blank (next.initial 0 r.config.members))

  abbrev pub receiver : MemberRecord ℕ Note
  receiver = slice_index_or members d.to (blank (next.initial 0 r.config.members))

  at-mark : At (marks r) place (Receipt d.to d.rsn d.from d.ssn)
  at-mark = mark-at r.trace place (event.Receipt d.to d.rsn d.from d.ssn) known.here

  trace-short : length (marks r) ≤ 8192
  trace-short = omega (arith, known.sound.room, known.sound.config.limit.1, length-map r.trace mark_of)

  pub may-follow : MayFollow r.config.members (take place (marks r)) (Receipt d.to d.rsn d.from d.ssn)
  may-follow = known.sound.lawful.well_formed place (Receipt d.to d.rsn d.from d.ssn) at-mark

  pub received-few : receiver.received < 8192
  received-few = omega (arith, may-follow.4, known.replayed.received d.to may-follow.1, count_by-le-length (is_receipt_of d.to) (take place (marks r)))

  -- what is read at the receiver's place
  pub receiver-read : {i : ℕ} (x : MemberRecord ℕ Note) → i ≡ d.to → slice_index_or members i x ≡ receiver
  receiver-read x same = grind (arith, get_or_default, known.replayed.size, may-follow)

  pub is-next : d.rsn ≡ receiver.received + 1
  is-next = omega (arith, may-follow.3, known.replayed.received d.to may-follow.1)

  -- the sender's log has the message
  pub has-note : (note : Note) × (logged_note sender.log d.ssn ≡ Some note)
  has-note =
      let sent = sent-before r.config.members (marks r) known.sound.lawful.well_formed place d.to d.rsn d.from d.ssn at-mark in
      let send = send-at r.trace sent.0 d.from d.ssn d.to sent.2 in
      logged-by known.sound.lawful (known.replayed.each d.from may-follow.0) sent.0 d.ssn d.to send.0 send.1
      (omega (arith, count-earlier (marks r) place sent.0 d.from (omega (arith, sent.1)), known.replayed.received d.from may-follow.0))

  -- the note that is read in the log at the sender's place
  pub note-read : {i : ℕ} (x : MemberRecord ℕ Note) → i ≡ d.from → logged_note (slice_index_or members i x).log d.ssn ≡ logged_note sender.log d.ssn
  note-read x same = grind (arith, get_or_default, known.replayed.size, may-follow)

  module _ {note : Note} (named : logged_note sender.log d.ssn ≡ Some note) where
    abbrev pub after : MemberRecord ℕ Note
    after = replayed_by next d.to r.config.members receiver d note

    noted : note_of r.trace d.from d.ssn ≡ Some note
    noted = logged-noted known.sound.lawful (known.replayed.each d.from may-follow.0) d.ssn note named

    is-replayed : IsReplayed next r.config.members r.config.starts r.trace d.to after
    is-replayed =
        replayed-step known.sound.lawful.well_formed (known.replayed.each d.to may-follow.1)
        (Has-receipts_at r.config.members (marks r) d.to receiver.received d known.sound.lawful.well_formed (place, at-mark) refl is-next) noted

    -- the log has room for the step's sends
    pub has-room : length receiver.log + length (next.step d.to r.config.members receiver.state note).sends.items ≤ 8192
    has-room =
        let items = (next.step d.to r.config.members receiver.state note).sends.items in
        let sends = count_by-le-length (is_send_of d.to) (marks r) in
        let made = length-append receiver.log (numbered (length receiver.log) items) in
        omega (arith, log-short known.sound.lawful is-replayed, sends, trace-short, made, length-numbered (length receiver.log) items)

    -- the receiver comes to the state of the fold
    pub state-is : after.state ≡ state_after_receipt next r.config.members r.trace d.to d.rsn
    state-is =
        ap (λ (x : Progress ℕ Note). x.state) is-replayed.progress
        ∙ after_notes-state next d.to r.config.members r.config.starts (take (receiver.received + 1) (received_notes r.trace d.to))
        ∙ ap (λ k. state_after_receipt next r.config.members r.trace d.to k) (sym is-next)

    pub past-receipt : HaveReplayed next r (place + 1) (slice_set members d.to after)
    past-receipt = record {
      size = length-set members d.to after ∙ known.replayed.size;
      each = λ m below. grind (arith, get_or-set_same, get_or-set_other, is-replayed, known.replayed.size, known.replayed.each m below);
      received = λ m below. grind (
        arith,
        nat_tests,
        get_or-set_same,
        get_or-set_other,
        known.replayed.size,
        known.replayed.received m below,
        may-follow.1,
        count-more (marks r) place m (Receipt d.to d.rsn d.from d.ssn) at-mark,
      );
    }

-- each of the members of a set is in it
pub listed_at : (s : Members) (i m : ℕ) → slice_get (member_list s) i ≡ Some m → set.contains s m ≡ true
unfolding member_list
listed_at s i m here = filter-passes (set.contains s) (range_with_len 0 16) i m here

-- and none from a number on below which all are
pub none-listed : (s : Members) (n from left : ℕ) → AllBelow s n → n ≤ from → filter (set.contains s) (range_with_len from left) ≡ []
none-listed s n from zero within past = refl
none-listed s n from (suc left) within past =
    let outside : set.contains s from ≡ false = false_from_ne_true _ (λ is. absurd (omega (arith, within from is, past))) in
    rw outside (none-listed s n (from + 1) left within (omega (arith, past)))
