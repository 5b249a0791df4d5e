-- Deliveries: what is known of one that is planned, and which refusal of a delivery, a ticket or a commit holds.
pub use Rattle.fbl_group.proofs.Common.{Some, None, ◌≡◌, ◌≢◌, ℕ, ◌+◌, ◌<◌, ◌≤◌, false, List, [], ◌∷◌, ◌++◌, length, map, refl, sym, subst, ap, ◌∙◌, append_assoc, arith, get_or, length-append, Fits, w32, slice_get, slice_set, All, nat_tests, Event, Outcome, Next, Entry, piggybacked, Message, MemberRecord, messages_from, IsUp, taken_off, between, GroupRecord, HasChannels, member, channel, channel_in, knowledge, IsSound}
pub use Rattle.fbl_group.proofs.Common.{step_of, up_if_none, receipts_fit, flight_at, IsOnce, front_message, send_of_message, taken_and_sent, IsPlanned, MayTakeIn, TakesIn, record_at, Receipt, SendsAllowed, received_by, table_after, IsInFlight, delivery_events, IsDelivery, SendsWell, sends_fit, receipt_is_new, new_not_held, new_not_carried, front_is_later, carried_fits, length-step_events, Delivered, cond, is_full, front}
pub use Rattle.fbl_group.proofs.Common.{deliver_refusal, of_commit, IsDeliverRefusal, Delivers, Receipted, Ticket, CommitRefusal, take_refusal, IsTicket, IsCurrent, IsFresh, MayCommit, RefusesCommit, sends_at, flight_ends, false≢true}
use Rattle.fbl_law.specs.GroupSteps.{made as made_by}
use Rattle.fbl_group.proofs.Queues.{first-is, messages-all, sends-messages, settled-in}
use Rattle.std.specs.FinSet as set
use Rattle.fbl_group.specs.declared.refusals.CommitRefusal.TheVariants as commit
use Rattle.fbl_group.specs.declared.refusals.DeliverRefusal.TheVariants.{Full}

module _ {S N : Type 0} {next : Next S N} {r now : GroupRecord S N} {q p : ℕ} {outcome : Outcome S N} (well : SendsWell next) (sound : IsSound next r) (view : r ≡ now)
    {note : N} (planned : IsPlanned next note now q p outcome) where
  plan : IsPlanned next note r q p outcome
  plan = rw view planned

  abbrev v : Message N
  v = front_message note r q p

  abbrev m : MemberRecord S N
  m = member r p

  -- it goes from the one to the other
  of_sender : v.from ≡ q
  of_sender = (flight_at sound.causes q p 0 v plan.first).1

  to_receiver : v.to ≡ p
  to_receiver = (flight_at sound.causes q p 0 v plan.first).2

  flies : IsInFlight (knowledge r) v
  flies = (flight_at sound.causes q p 0 v plan.first).0

  up : IsUp (knowledge r) p
  up = up_if_none plan.nobody_down p

  -- its step is the receiver's
  step : outcome ≡ next.step p r.config.members m.state v.note
  step = rw (step_of, to_receiver) at plan.step

  pub room : (length r.trace + 1 + length outcome.sends.items ≤ r.config.limit) × (r.receipts_ever ≢ 18446744073709551615)
  room = (grind (arith, nat_tests, plan.room), λ is. grind (arith, nat_tests, plan.room))

  receivers : All (λ (send : ℕ × N). send.0 < r.config.members) outcome.sends.items
  receivers k d below =
      (let allowed : SendsAllowed p r.config.members outcome = rw step (well p r.config.members m.state v.note sound.config.members.0 plan.to_member) in (allowed.0 k d below).0)

  -- of channels that are still the group's: there is a front, what is read there is the message, and receivers are members
  module _ {cs : List (List (List (Message N)))} (same : cs ≡ r.channels) where
    pub not_empty : slice_get (channel_in cs q p) 0 ≡ None → ⊥
    not_empty none = (let first = rw none at (rw (← same) at plan.first) in cc)

    pub receivers_in : {given : List (ℕ × N)} → given ≡ outcome.sends.items → All (λ (s : ℕ × N). s.0 < length (get_or cs p [])) given
    receivers_in is = rw (is, same) (λ k d below. omega (arith, receivers k d below, sound.shape.receivers p plan.to_member))

    pub sent_in : {made : List (Message N)} (before : ℕ) (carried : List Entry) → made ≡ messages_from p before carried outcome.sends.items
        → All (λ (w : Message N). w.to < length (get_or cs p [])) made
    sent_in before carried is =
        rw is (λ k d below. (messages-all (λ k. k < length (get_or cs p [])) p before carried outcome.sends.items (receivers_in {given = outcome.sends.items} refl) k d below).1)

    -- what is read at the front is the message
    module _ {w : Message N} (front : slice_get (channel_in cs q p) 0 ≡ Some w) where
      is_v : w ≡ v
      is_v = rw same at (sym (first-is note (channel_in cs q p) w front))

      pub few_carried : {carried : List Entry} → carried ≡ w.carried → IsOnce carried → Fits w32 (length carried)
      few_carried {carried = carried} is once =
          let same : carried ≡ v.carried = is ∙ ap (λ (u : Message N). u.carried) is_v in
          omega (arith, ap length same, carried_fits next r sound v flies (subst IsOnce same once), sound.room, sound.config.limit.1)

      -- and the receiver may take it in
      module _ (outside : r.outside ≡ next.initial 0 0) where
        is_m : record_at next r.members p ≡ m
        is_m = rw outside refl

        pub may_take_in : {n : ℕ} → n ≡ r.config.members → MayTakeIn next n p outcome w (record_at next r.members p)
        may_take_in is =
            let new = receipt_is_new next r sound p q v.ssn plan.to_member up in
            let newer = (rw (of_sender, to_receiver) at (front_is_later next r sound v (rw (of_sender, to_receiver) plan.first))) in
            let not_held = new_not_held next r sound p _ new in
            let not_carried = new_not_carried next r sound v _ flies new in
            let receipts = receipts_fit next r sound p plan.to_member up in
            let sends = sends_fit next r sound p plan.to_member up in
            rw (is, is_m, is_v) grind (arith, sound.config, plan.to_member, of_sender, to_receiver, newer, not_held, not_carried, step, receipts, sends, room)

        -- the record after the delivery, from what each step of it made
        module _ {after_rows : List (List (List (Message N)))} {f ssn rsn : ℕ} {members : List (MemberRecord S N)} {made : List (Message N)} {reserved pushed trace : List (Event N)}
            (taken : TakesIn next f p outcome w r.members members rsn made) (f_is : f ≡ r.config.f) (ssn_is : ssn ≡ w.ssn) (kept : reserved ≡ r.trace)
            (receipt : pushed ≡ reserved ++ Receipt p rsn q ssn ∷ []) (sends : trace ≡ pushed ++ map send_of_message made)
            (moved : after_rows ≡ taken_and_sent cs q p made) where
          abbrev new : GroupRecord S N
          new = record r { members = members; channels = after_rows; trace = trace; receipts_ever = r.receipts_ever + 1 }

          receives : members ≡ slice_set r.members p (received_by p m v outcome)
          receives = rw (is_m, is_v) at taken.members

          made_is : made ≡ messages_from p (length m.log) (piggybacked r.config.f (table_after p m v)) outcome.sends.items
          made_is = rw (is_m, is_v, f_is) at taken.sent

          made_next : made ≡ made_by next r v
          made_next = made_is ∙ rw (plan.step, to_receiver) refl

          settled : HasChannels r.config.members after_rows × ((a b : ℕ) → channel new a b ≡ taken_off v a b (channel r a b) ++ between a b (made_by next r v))
          settled =
              let ends : All (λ (u : Message N). (u.from ≡ p) × (u.to < r.config.members)) made = rw taken.sent (messages-all (λ k. k < r.config.members) p _ _ outcome.sends.items receivers) in
              rw (moved, same, ← made_next) (settled-in v made sound.shape plan.from_member plan.to_member of_sender to_receiver ends)

          rsn_next : rsn ≡ m.received + 1
          rsn_next = rw is_m at taken.numbered

          trace_is : trace ≡ r.trace ++ delivery_events next r v
          trace_is = rw (sends, receipt, kept, made_is, append_assoc, sends-messages, rsn_next, ssn_is, is_v, plan.step, to_receiver, of_sender) refl

          longer : length trace ≡ length r.trace + 1 + length outcome.sends.items
          longer =
              let sent = length-step_events v.to (length (member r v.to).log) (step_of next r v).sends.items in
              omega (arith, ap length trace_is, length-append r.trace (delivery_events next r v), sent, ap (λ (o : Outcome S N). length o.sends.items) (sym plan.step))

          is_delivery : IsDelivery next r new v
          is_delivery = grind (arith, plan, of_sender, to_receiver, room, longer, trace_is, receives, settled)

          -- what the delivery answers
          pub is_delivered : {carried : List Entry} → carried ≡ w.carried
              → Delivered next now new (front_message note now q p) (record { rsn = rsn; carried = length carried; state = outcome.state })
          is_delivered {carried = carried} is = rw (← view) grind (arith, is_delivery, to_receiver, rsn_next, is_v, plan.step)

-- ---- which refusal holds

module _ {S N : Type 0} (next : Next S N) (r : GroupRecord S N) (t : Ticket S N) {w : Message N} {x : MemberRecord S N} (size : r.config.members ≡ t.n)
    (at : front r t.from t.to ≡ Some w) (read : x ≡ member r t.to) where
  -- a ticket whose channel has this front, and whose receiver this record, is fresh where they are the ticket's
  pub is_fresh : IsCurrent x w t → IsFresh r t
  is_fresh current = (size, (w, at, rw (← read) current))

  pub is_current : IsFresh r t → IsCurrent x w t
  is_current fresh =
      let same : fresh.1.0 ≡ w = grind (arith, fresh.1.1, at) in
      rw read (rw same at fresh.1.2)

  -- a step that is fresh, and that there is room for, is planned
  module _ {outcome : Outcome S N} (nobody : set.len r.down ≡ 0) (step : outcome ≡ next.step t.to t.n t.state t.note) where
    pub is_planned : IsSound next r → IsCurrent x w t → is_full r (length outcome.sends.items) ≡ false → IsPlanned next t.note r t.from t.to outcome
    is_planned sound current room =
        let first : front_message t.note r t.from t.to ≡ w = first-is t.note (channel r t.from t.to) w at in
        let flight = flight_at sound.causes t.from t.to 0 w at in
        let steps : outcome ≡ next.step t.to r.config.members (member r t.to).state w.note = rw (size, ← read, current.state, current.note) step in
        grind (arith, set.empty_of_len r.down nobody, t.ends, flight, flight_ends sound.causes w flight.0, sound.shape)

-- a step whose ticket was just taken is refused only for want of room or of memory: its commit answers for the delivery
module _ {S N : Type 0} (next : Next S N) (r : GroupRecord S N) (p q : ℕ) (t : Ticket S N)
    (taken : (take_refusal r p q ≡ None) × ((v : Message N) × (front r q p ≡ Some v) × IsTicket r v t))
    (ends : (t.to ≡ p) × (t.from ≡ q)) (made : Ticket S N) (same : made ≡ t) where
  abbrev message : Message N
  message = taken.1.0

  is : IsTicket r message t
  is = taken.1.2

  nobody : set.len r.down ≡ 0
  nobody = grind (arith, nat_tests, taken.0)

  here : front r t.from t.to ≡ Some message
  here = simp (ends.0, ends.1) taken.1.1

  current : IsCurrent (member r t.to) message t
  current = record { state = sym (is.state ∙ ap (λ k. (member r k).state) (sym is.to)); rsn = sym (is.rsn ∙ ap (λ k. (member r k).received + 1) (sym is.to)); ssn = sym is.ssn; note = sym is.note }

  fresh : IsFresh r t
  fresh = (sym is.n, (message, here, current))

  same_step : next.step t.to t.n t.state t.note ≡ step_of next r message
  same_step = cc (is.to, is.n, is.state, is.note)

  deliver_is : deliver_refusal next r p q ≡ cond (is_full r (sends_at next t)) (Some Full) None
  deliver_is = rw (taken.0, taken.1.1, same_step) refl

  answered : (refusal : CommitRefusal) → RefusesCommit next r t refusal → IsDeliverRefusal (deliver_refusal next r p q) (of_commit refusal)
  answered commit.Down refused = absurd (refused nobody)
  answered commit.Stale refused = absurd (refused.1 fresh)
  answered commit.Full refused = deliver_is ∙ rw refused.2 refl
  answered commit.Memory refused = deliver_is ∙ rw refused.room refl

  pub commit_refused : (refusal : CommitRefusal) → RefusesCommit next r made refusal → IsDeliverRefusal (deliver_refusal next r p q) (of_commit refusal)
  commit_refused refusal refused = answered refusal (rw same at refused)

  pub delivers : (new : GroupRecord S N) (answer : Receipted S) → MayCommit next r made × Delivers next r new made.to made.from answer
      → (deliver_refusal next r p q ≡ None) × Delivers next r new p q answer
  delivers new answer done = (deliver_is ∙ rw (rw same at done.0).room refl, (rw (same, ends.0, ends.1) at done.1))
