-- What holds in a sound group, and what soundness promises, also of dumps.
use Rattle.fbl_law.proofs.Common.{receipt-number, ◌≡◌, ℕ, ◌<◌, ◌≤◌, false, length, Some, slice_get, ap, ◌∙◌, arith, fold, length-map, count_by-le-length, Determinant, mark_of, receipt_of, Has}
use Rattle.fbl_law.proofs.Common.{is_send_of, is_receipt_of, sends_of, receipts_of, Next, Progress, after_notes-state, is_held, Message, last_from, in_table, in_message, IsInFlight, IsUp, Names}
use Rattle.fbl_law.proofs.Common.{GroupRecord, member, channel, marks, knowledge, IsSound, received_notes, next_determinant, inl, inr, take, cases_order, itself, step, some_outside, IsHolder}
use Rattle.fbl_law.proofs.Common.{IsHeldBy, Includes, IsDown, IsSoundKnowledge, Knowledge, Members, SurvivorsHold, HoldsEachReceipt, OfSound, RecordsCauses, RecordsFirst, eqb-self, nat_tests, ◌+◌}
use Rattle.fbl_law.proofs.Common.{zero, suc, List, [], ◌∷◌, map, get_or, refl, length-append, Contains, zero-add, Contains-append_left, Contains-append_right, length-filter_map, determinant_of}
use Rattle.fbl_law.proofs.Common.{same_determinant, filter_map-At, At-below, Decides-same_determinant, Entry, MemberRecord, blank, receipts, ◌*◌, IsOnce, decided, add-zero, All-append, All-contains}
use Rattle.fbl_law.proofs.Common.{All-map, All-nil, All, length-le_from_is_member, is_member-Decides, Send, Receipt, HeldAt, pairs_of, pairs_from, held_pairs, dump_of}
use Rattle.fbl_law.proofs.Lists.{Contains-at, Contains-map, Contains-changed, Contains-none}
use Rattle.fbl_law.proofs.Safe.{Has-named, up_if_named, Names-held, held-Names, down_or_up, never_both, up_if_none, IsRecorded-before, Has-recorded, IsAlwaysHeld-closed, All-from}
use Rattle.fbl_law.proofs.Channels.{channel-at, flight_ends, in_flight-later}
use Rattle.fbl_law.proofs.ReplayedRecords.{log-length, fold-received, number-front}
use Rattle.fbl_law.proofs.Receipts.{length-receipts_at}
use Rattle.std.specs.FinSet as set
use Rattle.fbl_law.specs.Promises.{DumpObeysRules, DumpHasNoOrphan}

module _ {S N : Type 0} (next : Next S N) (r : GroupRecord S N) (sound : IsSound next r) where
  -- an up member has as many receipts and sends as the trace says
  pub received_counted : (m : ℕ) → m < r.config.members → IsUp (knowledge r) m → (member r m).received ≡ receipts_of (marks r) m
  received_counted m below up = fold-received sound.lawful.well_formed (sound.folds m below up) ∙ length-receipts_at (marks r) m

  pub log_counted : (m : ℕ) → m < r.config.members → IsUp (knowledge r) m → length (member r m).log ≡ sends_of (marks r) m
  log_counted m below up = ap (λ (p : Progress S N). length p.log) (sound.folds m below up).progress ∙ log-length sound.lawful m

  -- and its state is what its step makes of its receipts
  pub up_state : (m : ℕ) → m < r.config.members → IsUp (knowledge r) m
      → (member r m).state ≡ fold (λ state x. (next.step m r.config.members state x).state) (next.initial m r.config.members) (received_notes r.trace m)
  up_state m below up = ap (λ (p : Progress S N). p.state) (sound.folds m below up).progress ∙ after_notes-state next m r.config.members r.config.starts (received_notes r.trace m)

  pub trace_fits : length (marks r) ≤ 8192
  trace_fits = omega (arith, length-map r.trace mark_of, sound.room, sound.config.limit.1)

  pub receipts_fit : (m : ℕ) → m < r.config.members → IsUp (knowledge r) m → (member r m).received ≤ length r.trace
  receipts_fit m below up = omega (arith, received_counted m below up, count_by-le-length (is_receipt_of m) (marks r), length-map r.trace mark_of)

  pub sends_fit : (m : ℕ) → m < r.config.members → IsUp (knowledge r) m → length (member r m).log ≤ length r.trace
  sends_fit m below up = omega (arith, log_counted m below up, count_by-le-length (is_send_of m) (marks r), length-map r.trace mark_of)

  -- the receipt that an up member makes next is new
  pub receipt_is_new : (m from ssn : ℕ) → m < r.config.members → IsUp (knowledge r) m → ¬ (Has (marks r) (receipt_of (next_determinant m (member r m) from ssn)))
  receipt_is_new m from ssn below up has = omega (arith, received_counted m below up, receipt-number r.config.members (marks r) m _ from ssn sound.lawful.well_formed has)

  -- tables name only receipts of the trace
  pub named_received : (m : ℕ) (d : Determinant) → Names (member r m).table d → Has (marks r) (receipt_of d)
  named_received m d named =
      let up = up_if_named r.config.f (knowledge r) sound.causes.down m d named in
      Has-named (knowledge r) (member r m).table (λ e h. (sound.causes.truth (in_table m) e up h).0) d named

  -- so no table has a determinant that is new, and no message in flight carries one
  pub new_not_held : (m : ℕ) (d : Determinant) → ¬ (Has (marks r) (receipt_of d)) → is_held (member r m).table d ≡ false
  new_not_held m d new = grind (arith, nat_tests, Names-held (member r m).table d, named_received m d)

  pub new_not_carried : (v : Message N) (d : Determinant) → IsInFlight (knowledge r) v → ¬ (Has (marks r) (receipt_of d)) → is_held v.carried d ≡ false
  new_not_carried v d flies new = grind (arith, nat_tests, Names-held v.carried d, Has-named (knowledge r) v.carried (λ e h. (sound.causes.truth (in_message v) e flies h).0) d)

  -- the number of a channel's front is beyond the last one that its receiver received from its sender
  pub front_is_later : (v : Message N) → slice_get (channel r v.from v.to) 0 ≡ Some v → last_from (member r v.to) v.from < v.ssn
  front_is_later v front =
      let place = channel-at sound.causes v.from v.to 0 v front in
      let ends = flight_ends sound.causes v (Contains-at (channel r v.from v.to) 0 v front) in
      let last = (sound.folds v.to ends.1 place.1.1).last v.from (omega (arith, ends.0, sound.config.members.1)) in
      omega (arith, last, in_flight-later r.config.members (marks r) v.from v.to 0 v.ssn sound.lawful.well_formed place.0.0)

module _ (S N : Type 0) where
  pub sound_holds_each_receipt : OfSound S N HoldsEachReceipt
  sound_holds_each_receipt next r sound nobody d there =
      elim (IsAlwaysHeld-closed r.config.f (knowledge r) sound.causes.down sound.causes.closed d there) [
        | inl stable ↦ inl (stable.0, stable.1, λ m among. holder m (stable.2 m among))
        | inr held ↦ inr (λ m depends. held-Names (member r m).table d (held m (up_if_none nobody m) depends).1)
      ]
    where
      holder : (m : ℕ) → IsHolder (knowledge r) d m → IsHeldBy r d m
      holder m either = search (arith, held-Names, never_both, up_if_none)

module _ {S N : Type 0} where
  -- of more than f holders one is outside a set of at most f members, and up
  pub any_survivors_hold : (n f : ℕ) (r : Knowledge S N) (s : Members) → IsSoundKnowledge n f r → ((q : ℕ) → IsDown r q → Includes s q) → set.len s ≤ f → SurvivorsHold r s
  any_survivors_hold n f r s sound covers few m d out depends =
      let up : IsUp r m = elim (down_or_up r.down m) [ inl down ↦ never_both s m (covers m down) out | inr up ↦ up ] in
      grind (arith, nat_tests, sound.closed.events (in_table m) depends.0 up depends.2 d depends.1, some_outside, never_both)

  pub sound_records_causes : OfSound S N (λ r. RecordsCauses (knowledge r))
  sound_records_causes next r sound = IsRecorded-before r.config.f (knowledge r) sound.causes.closed

  -- the numbers of a member's receipts rise, so the one with the lower number comes first
  pub sound_records_first : OfSound S N (λ r. RecordsFirst (knowledge r))
  sound_records_first next r sound c d there same before recorded =
      let found = Has-recorded (knowledge r) sound.causes.truth d recorded in
      let number : d.rsn ≡ receipts_of (take found.0 (marks r)) c.to + 1 = rw same (sound.lawful.well_formed found.0 (receipt_of d) found.1).3 in
      let first = number-front (is_receipt_of c.to) (marks r) found.0 there.0 d.rsn (receipt_of d) found.1 (rw same (eqb-self d.to)) number in
      sound_records_causes next r sound c d recorded (elim (cases_order there.0 found.0) [
        | inl place ↦
            let one : receipt_of c ≡ receipt_of d = cc (rw place at there.1, found.1) in
            rw one (itself found)
        | inr (inl earlier) ↦ step (itself there) ((there.0, found.0, earlier, there.1, found.1), inl same)
        | inr (inr later) ↦ absurd (let last = (sound.lawful.well_formed there.0 (receipt_of c) there.1).3 in grind (arith, nat_tests, first, last))
      ])

  -- what holds of each member with each determinant of its table holds of the held pairs
  pairs_from-all : (outside : S) (P : ℕ × Determinant → Type 0) (m : ℕ) (members : List (MemberRecord S N))
      → ((j : ℕ) (e : Entry) → j < length members → Contains (get_or members j (blank outside)).table e → P (m + j, e.det)) → All P (pairs_from m members)
  pairs_from-all outside P m [] each = All-nil P
  pairs_from-all outside P m (x ∷ members) each =
      let next : (j : ℕ) → m + suc j ≡ m + 1 + j = λ j. omega arith in
      All-append P (pairs_of m x.table) (pairs_from (m + 1) members)
      (All-map P (λ (e : Entry). (m, e.det)) x.table (All-from (λ e. P (m, e.det)) x.table (λ e among. rw (add-zero m) at (each 0 e (omega arith) among))))
      (pairs_from-all outside P (m + 1) members (λ j e below among. rw (next j) at (each (suc j) e (omega arith) among)))

  -- and each determinant of a table is held by its member
  pairs_from-Names : (outside : S) (m : ℕ) (members : List (MemberRecord S N)) (j : ℕ) (d : Determinant) → Names (get_or members j (blank outside)).table d → Contains (pairs_from m members) (m + j, d)
  pairs_from-Names outside m [] j d named = absurd (Contains-none named.0 named.1)
  pairs_from-Names outside m (x ∷ members) zero d named =
      let there = Contains-map (λ (e : Entry). (m, e.det)) x.table named.0 named.1 in
      rw (add-zero m, ← named.2) (Contains-append_left (pairs_of m x.table) (pairs_from (m + 1) members) (m, named.0.det) there)
  pairs_from-Names outside m (x ∷ members) (suc j) d named =
      (let e : m + suc j ≡ m + 1 + j = omega arith in rw e (Contains-append_right (pairs_of m x.table) (pairs_from (m + 1) members) (m + 1 + j, d) (pairs_from-Names outside (m + 1) members j d named)))

  pairs_fit : (outside : S) (m : ℕ) (members : List (MemberRecord S N)) → ((j : ℕ) → j < length members → length (get_or members j (blank outside)).table ≤ 8192)
      → length (pairs_from m members) ≤ 8192 * length members
  pairs_fit outside m [] fit = omega arith
  pairs_fit outside m (x ∷ members) fit =
      simp (length-append, length-map) (omega (arith, fit 0 (omega arith), pairs_fit outside (m + 1) members (λ j below. fit (suc j) (omega arith))))

module _ {S N : Type 0} (next : Next S N) (r : GroupRecord S N) (sound : IsSound next r) where
  -- entries in which no determinant stands twice, all of receipts of the trace, are at most as many as its receipts
  entries_fit : (entries : List Entry) → IsOnce entries → ((d : Determinant) → Names entries d → Has (marks r) (receipt_of d)) → length entries ≤ length (receipts (marks r))
  entries_fit entries distinct received =
      let dets : List Determinant = map (λ (e : Entry). e.det) entries in
      let fits : length dets ≤ length (receipts (marks r)) = length-le_from_is_member (decided same_determinant Decides-same_determinant) dets (receipts (marks r)) distinct
      (λ q among.
      let has = received q (Contains-changed (λ (e : Entry). e.det) entries q ((is_member-Decides Decides-same_determinant dets q).0 among)) in
      let place = filter_map-At determinant_of (marks r) has.0 (receipt_of q) q has.1 refl in
      (is_member-Decides Decides-same_determinant (receipts (marks r)) q).1 (Contains-at (receipts (marks r)) place.0 q place.1)) in
      omega (arith, fits, length-map entries (λ (e : Entry). e.det))

  -- so are those of a table, and those that a message in flight carries
  pub table_fits : (m : ℕ) → length (member r m).table ≤ length (receipts (marks r))
  table_fits m = entries_fit (member r m).table (sound.distinct m) (named_received next r sound m)

  pub carried_fits : (v : Message N) → IsInFlight (knowledge r) v → IsOnce v.carried → length v.carried ≤ length r.trace
  carried_fits v flies distinct =
      omega (arith, entries_fit v.carried distinct (Has-named (knowledge r) v.carried (λ e h. (sound.causes.truth (in_message v) e flies h).0)), length-filter_map determinant_of (marks r), length-map r.trace mark_of)

  held_at : (strike : Members) (i : ℕ) → HeldAt (dump_of r strike) i
  held_at strike i h at =
      let all = pairs_from-all r.outside (λ x. (x.0 < r.config.members) × Has (marks r) (receipt_of x.1)) 0 r.members
      (λ j e below among. (omega (arith, below, sound.members), named_received next r sound j e.det (e, among, refl))) in
      let held = All-contains (λ x. (x.0 < r.config.members) × Has (marks r) (receipt_of x.1)) (held_pairs r) h all (Contains-at (held_pairs r) i h at) in
      let fits : length (held_pairs r) ≤ 8192 * length r.members =
      pairs_fit r.outside 0 r.members (λ j below. (let t = table_fits j in omega (arith, t, length-filter_map determinant_of (marks r), trace_fits next r sound))) in
      (omega (arith, fits, At-below (held_pairs r) i h at, sound.members, sound.config.members.1), held.0, held.1)

module _ (S N : Type 0) where
  pub dump_obeys_rules : DumpObeysRules S N
  unfolding DumpObeysRules
  dump_obeys_rules next r strike sound within = assumption (held_at next r sound strike)

  pub dump_has_no_orphan : DumpHasNoOrphan S N
  unfolding DumpHasNoOrphan
  dump_has_no_orphan next r strike m sound covers few (out, (Send from ssn to, lost, depends)) = absurd lost
  dump_has_no_orphan next r strike m sound covers few (out, (Receipt to rsn from ssn, lost, depends)) =
      let d : Determinant = record { from = from; ssn = ssn; to = to; rsn = rsn } in
      let one = any_survivors_hold r.config.members r.config.f (knowledge r) strike sound.causes covers few m d out depends in
      lost (one.0, rw (zero-add one.0) at (pairs_from-Names r.outside 0 r.members one.0 d one.2), one.1)
