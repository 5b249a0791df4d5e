-- How the members that are down replay what the survivors have recorded, why they never get stuck, how many receipts they replay, and from there to a recovery.
use Rattle.fbl_law.proofs.Common.{Receipt, receipts_of, receipts-step, WellFormed-keeps, MayFollow, ◌++◌, filter-append, filter_map-append, append-nil, ℕ, zero, suc, ◌<◌, ◌≤◌, List, arith, subst}
use Rattle.fbl_law.proofs.Common.{Determinant, Mark, At, receipt_of, WellFormed, sent-before, one_place, Send, ◌≡◌, ◌+◌, Earlier, Has, ◌≢◌, ◌-◌, ◌&&◌, Some, slice_get, Bool, true, [], ◌∷◌, length}
use Rattle.fbl_law.proofs.Common.{map, refl, sym, ap, ◌∙◌, nat_lt, filter, nat_tests, length-map, Event, mark_of, determinant_of, AllBelow, Members, Next, MemberRecord, Stays, IsEventCut, GroupRecord}
use Rattle.fbl_law.proofs.Common.{knowledge, receipts, receipts_at, IsReplayed, IsSound, length-left, length-filter_map, count_in, cond, ◌⊎◌, inl, inr, slice_set, length-append, cases_Bool, cases_eq}
use Rattle.fbl_law.proofs.Common.{length-set, get_or-set_same, get_or-set_other, count_by-le-length, slice_get_within, slice_index_or, is_send_of, Lawful, Entry, found, blank, logged_note}
use Rattle.fbl_law.proofs.Common.{replayed_by, length-numbered, Names, IsDown, recovery_table, member_checkpoint, IsFold, IsRecovery, IsMadeAgain, IsNextReplay, recovered_trace, stays_by}
use Rattle.fbl_law.proofs.Common.{is_of_receipt, is_replayed, working, IsReplaying, IsWaiting, replayed_in, IsRebuilt, position_or_len, fails_before_first, find_at, get_or, slice_get-get_or}
use Rattle.fbl_law.proofs.Common.{option_map}
use Rattle.std.specs.FinSet as set
use Rattle.fbl_law.proofs.Receipts.{at-most-before, receipts_at-Has, at-most, Has-receipts_at, length-receipts_at}
use Rattle.fbl_law.proofs.Lists.{sum_below-agree, sum_below-none, sum_below-at, Contains-here, Contains-there}
use Rattle.fbl_law.proofs.Recovery.{cut-obeys, cut-recorded, recorded-cut}
use Rattle.fbl_law.proofs.GroupRecovery.{recovered_trace-cut, recovered_lawful, cut-shorter, stays_by-cut, survivor-replays, folds-all, checkpoint-survives}
use Rattle.fbl_law.proofs.Safe.{down_or_up, gathered_recorded, recorded_gathered}
use Rattle.fbl_law.proofs.ReplayedRecords.{send-at, replayed-step, replayed-fold, logged-noted, logged-by, log-short}
use Rattle.fbl_law.proofs.Channels.{made-again, made-again-if}

-- the member has replayed each receipt that comes before the send, so it has sent that message again
abbrev pub IsSentAgain : List Mark → (ℕ → ℕ) → ℕ → ℕ → ℕ → Type 0
IsSentAgain trace done from ssn to = (c : Determinant) → c.to ≡ from → Earlier trace (receipt_of c) (Send from ssn to) → c.rsn ≤ done from

-- each member m has replayed its first `done m` receipts, and none can go on: where the trace has its next one, that
-- message isn't sent again
abbrev pub IsStuck : List Mark → (ℕ → ℕ) → Type 0
IsStuck trace done = (d : Determinant) → Has trace (receipt_of d) → d.rsn ≡ done d.to + 1 → ¬ (IsSentAgain trace done d.from d.ssn d.to)

module _ (n : ℕ) (t : List Mark) (done : ℕ → ℕ) (obeys : WellFormed n t) (stuck : IsStuck t done) where
  abbrev DoneBefore : ℕ → Type 0
  DoneBefore i = (j : ℕ) (c : Determinant) → j < i → At t j (receipt_of c) → c.rsn ≤ done c.to

  done_at : (i : ℕ) (d : Determinant) → DoneBefore i → At t i (receipt_of d) → d.rsn ≤ done d.to
  done_at i d before here =
      let count = at-most-before n t d.to (done d.to) i obeys (λ j c below there to. subst (λ (x : ℕ). c.rsn ≤ done x) to (before j c below there)) in
      omega (arith, (obeys i (receipt_of d) here).3, count, λ (next : d.rsn ≡ done d.to + 1). stuck d (i, here) next sent_again)
    where
      sent_again : IsSentAgain t done d.from d.ssn d.to
      sent_again c to earlier =
          let sent = sent-before n t obeys i d.to d.rsn d.from d.ssn here in
          let same = one_place n t obeys (Send d.from d.ssn d.to) sent.0 earlier.1 sent.2 earlier.4 in
          subst (λ (x : ℕ). c.rsn ≤ done x) to (before earlier.0 c (omega (arith, earlier.2, same, sent.1)) earlier.3)

  all_done : (k : ℕ) → DoneBefore k
  all_done zero j c below = absurd (omega arith)
  all_done (suc k) j c below = done_at j c (λ i d less. all_done k i d (omega arith))

  -- so where replay can go on nowhere, each receipt is replayed
  pub never_stuck : (d : Determinant) → Has t (receipt_of d) → d.rsn ≤ done d.to
  never_stuck d there = all_done (suc there.0) there.0 d (omega arith) there.1

-- counts that are no more on the set
pub count_in-most : (s : Members) (a b : ℕ → ℕ) (n : ℕ) → ((q : ℕ) → q < n → set.contains s q ≡ true → a q ≤ b q) → count_in s a n ≤ count_in s b n
count_in-most s a b zero most = omega arith
count_in-most s a b (suc n) most = grind (arith, most n, count_in-most s a b n (λ q below. most q (omega arith)))

-- counts that agree on the set
pub count_in-same : (s : Members) (a b : ℕ → ℕ) (n : ℕ) → ((q : ℕ) → q < n → set.contains s q ≡ true → a q ≡ b q) → count_in s a n ≡ count_in s b n
count_in-same s a b n agree = sum_below-agree n _ _ (λ q below. grind (arith, agree q below))

-- one more of a member of the set
pub count_in-step : (s : Members) (a b : ℕ → ℕ) (n p : ℕ) → p < n → set.contains s p ≡ true → b p ≡ a p + 1 → ((q : ℕ) → q ≢ p → b q ≡ a q)
    → count_in s b n ≡ count_in s a n + 1
count_in-step s a b n p below in' one others = search (arith, sum_below-at n p 1)

-- the receipts of the members of a set beyond a number of each member's, counted member by member
abbrev pub beyond : Members → (ℕ → ℕ) → Determinant → Bool
beyond s past d = set.contains s d.to && nat_lt (past d.to) d.rsn

count_in-beyond : (s : Members) (past : ℕ → ℕ) (n m : ℕ) (t : List Mark) → AllBelow s n → WellFormed m t
    → count_in s (λ p. receipts_of t p - past p) n ≡ length (filter (beyond s past) (receipts t))
count_in-beyond s past n m t within = WellFormed-keeps m (λ u. count_in s (count u) n ≡ length (filter (beyond s past) (receipts u))) none more t where
  count : List Mark → ℕ → ℕ
  count u p = receipts_of u p - past p

  none : count_in s (count []) n ≡ 0
  none = sum_below-none n _ (λ q. grind (arith))

  more : (u : List Mark) (e : Mark) → WellFormed m u → MayFollow m u e → count_in s (count u) n ≡ length (filter (beyond s past) (receipts u))
      → count_in s (count (u ++ e ∷ [])) n ≡ length (filter (beyond s past) (receipts (u ++ e ∷ [])))
  more u (Send q k p) obeys may was =
      count_in-same s (count (u ++ Send q k p ∷ [])) (count u) n (λ x below among. omega (arith, receipts-step u (Send q k p) x)) ∙ was ∙ rw (filter_map-append determinant_of, append-nil) refl
  more u (Receipt p r q k) obeys may was =
      let d : Determinant = record { from = q; ssn = k; to = p; rsn = r } in
      let grown = sum_below-at n p (cond (beyond s past d) 1 0) (λ x. cond (set.contains s x) (count u x) 0) (λ x. cond (set.contains s x) (count (u ++ Receipt p r q k ∷ []) x) 0)
      (λ x. grind (arith, nat_tests, may.3, receipts-step u (Receipt p r q k) x)) in
      rw (filter_map-append determinant_of, filter-append, length-append) grind (arith, nat_tests, grown, was, within p)

module _ {S N : Type 0} {next : Next S N} {old : GroupRecord S N} (sound : IsSound next old) {new : List (Event N)} (cut : IsEventCut (Stays (knowledge old)) old.trace new) where
  -- the members that are down replay no more than the trace has
  pub replayed-most : (work : ℕ → MemberRecord S N)
      → ((p : ℕ) → p < old.config.members → set.contains old.down p ≡ true → IsReplayed next old.config.members old.config.starts new p (work p))
      → count_in old.down (λ p. (work p).received) old.config.members ≤ length old.trace
  replayed-most work replays =
      let most = count_in-most old.down (λ p. (work p).received) (λ p. receipts_of (map mark_of new) p - 0) old.config.members
      (λ p below down. omega (arith, (replays p below down).within, length-receipts_at (map mark_of new) p)) in
      let all = count_in-beyond old.down (λ p. 0) old.config.members old.config.members (map mark_of new) sound.down (cut-obeys sound cut) in
      let some = length-left (beyond old.down (λ p. 0)) (receipts (map mark_of new)) in
      omega (arith, most, all, some, cut-shorter sound cut, length-filter_map determinant_of (map mark_of new), length-map new mark_of)

  -- and at the end exactly its receipts of theirs, but for what they had replayed before
  pub replayed-count : (work : ℕ → MemberRecord S N) (past : ℕ → ℕ)
      → ((p : ℕ) → p < old.config.members → set.contains old.down p ≡ true → (work p).received ≡ length (receipts_at (map mark_of new) p))
      → count_in old.down (λ p. (work p).received - past p) old.config.members ≡ length (filter (beyond old.down past) (receipts (map mark_of new)))
  replayed-count work past all =
      count_in-same old.down (λ p. (work p).received - past p) (λ p. receipts_of (map mark_of new) p - past p) old.config.members
      (λ p below down. ap (λ k. k - past p) (all p below down ∙ length-receipts_at (map mark_of new) p))
      ∙ count_in-beyond old.down past old.config.members old.config.members (map mark_of new) sound.down (cut-obeys sound cut)

-- what a table finds is one of its entries' determinants, of that receipt
pub found-named : (p k : ℕ) (table : List Entry) (d : Determinant) → found p k table ≡ Some d → Names table d × (d.to ≡ p) × (d.rsn ≡ k)
found-named p k [] d is = absurd cc
found-named p k (e ∷ table) d is = elim (cases_Bool (is_of_receipt p k e)) [
  | inl own ↦ ((e, Contains-here e table, grind arith), grind (arith, nat_tests), grind (arith, nat_tests))
  | inr other ↦ let r = found-named p k table d (rw other at is) in ((r.0.0, Contains-there e table r.0.0 r.0.1, r.0.2), r.1, r.2)
]

-- of a receipt that the table names it finds one
found-some : (p k : ℕ) (table : List Entry) (d : Determinant) → Names table d → d.to ≡ p → d.rsn ≡ k → (c : Determinant) × (found p k table ≡ Some c)
found-some p k table d named to rsn =
    let place = position_or_len (is_of_receipt p k) table in
    let passes : is_of_receipt p k named.0 ≡ true = rw (named.2, to, rsn) grind (arith, nat_tests) in
    let first : ¬ (named.1.0 < place) = λ before. (let fails = fails_before_first (is_of_receipt p k) table named.1.0 named.0 before in let is = named.1.2 in cc) in
    ((get_or table place named.0).det, ap (option_map (λ (e : Entry). e.det)) (find_at (is_of_receipt p k) table ∙ slice_get-get_or table place named.0 (omega (arith, first, named.1.1))))

-- a record with a table that it has
pub with-table : {S N : Type 0} → (m : MemberRecord S N) (t : List Entry) → m.table ≡ t → m ≡ record m { table = t }
with-table m t is = ap (λ (x : List Entry). record m { table = x }) is

module _ {S N : Type 0} (next : Next S N) (old : GroupRecord S N) (sound : IsSound next old) where
  abbrev cut : IsEventCut (Stays (knowledge old)) old.trace (recovered_trace old)
  cut = recovered_trace-cut next old sound

  abbrev lawful : Lawful next old.config.members old.config.starts (recovered_trace old)
  lawful = recovered_lawful next old sound

  -- the member has come so far in its replay of the cut
  abbrev Replays : ℕ → MemberRecord S N → Type 0
  Replays p m = IsReplayed next old.config.members old.config.starts (recovered_trace old) p m

  -- a member's receipts in the cut
  abbrev left : ℕ → List Determinant
  left p = receipts_at (map mark_of (recovered_trace old)) p

  cut-short : length (map mark_of (recovered_trace old)) ≤ 8192
  cut-short = omega (arith, cut-shorter sound cut, sound.room, sound.config.limit.1, length-map (recovered_trace old) mark_of)

  -- what the gathered tables find of a member is its receipt in the cut with that number
  found-receipt : (p k : ℕ) (d : Determinant) → found p (k + 1) (recovery_table (knowledge old)) ≡ Some d → slice_get (left p) k ≡ Some d
  found-receipt p k d is =
      let named = found-named p (k + 1) (recovery_table (knowledge old)) d is in
      let recorded = gathered_recorded sound.causes d named.0 in
      Has-receipts_at old.config.members (map mark_of (recovered_trace old)) p k d lawful.well_formed (recorded-cut sound cut d recorded) named.1 named.2

  -- and they find each receipt of the cut
  found-all : (p k : ℕ) (d : Determinant) → slice_get (left p) k ≡ Some d → found p (k + 1) (recovery_table (knowledge old)) ≡ Some d
  found-all p k d here =
      let has = receipts_at-Has old.config.members (map mark_of (recovered_trace old)) p k d lawful.well_formed here in
      let named = recorded_gathered sound.causes d (cut-recorded sound cut d has.0) in
      let some = found-some p (k + 1) (recovery_table (knowledge old)) d named has.1 has.2 in
      some.1 ∙ sym (found-receipt p k some.0 some.1) ∙ here

  -- each member that is down begins at its checkpoint
  pub replay_begins : (rebuilt : List (MemberRecord S N)) → length rebuilt ≡ old.config.members
      → ((p : ℕ) → p < old.config.members → IsDown (knowledge old) p → slice_index_or rebuilt p (blank old.outside) ≡ member_checkpoint old p) → IsReplaying next old rebuilt
  replay_begins rebuilt size begins = search (arith, checkpoint-survives sound cut)

  module _ (rebuilt : List (MemberRecord S N)) (replaying : IsReplaying next old rebuilt) where
    abbrev current : ℕ → MemberRecord S N
    current p = slice_index_or rebuilt p (blank old.outside)

    working-replays : (q : ℕ) → q < old.config.members → Replays q (working old rebuilt q)
    working-replays q below = search (arith, down_or_up old.down q, replaying.replayed q below, survivor-replays sound cut q below)

    replays-log : (q : ℕ) (m : MemberRecord S N) → Replays q m → length m.log ≤ 8192
    replays-log q m replays = omega (arith, log-short lawful replays, count_by-le-length (is_send_of q) (map mark_of (recovered_trace old)), cut-short)

    -- the logs stay within their bound
    pub working-log : (q : ℕ) → q < old.config.members → length (working old rebuilt q).log ≤ 8192
    working-log q below = replays-log q (working old rebuilt q) (working-replays q below)

    -- no more are replayed than the trace has
    pub replayed_in-short : replayed_in old rebuilt ≤ 8192
    replayed_in-short = grind (arith, nat_tests, count_in-most, replayed-most sound cut current replaying.replayed)

    -- new tables change nothing of the replay
    pub replaying-tables : (given : List (MemberRecord S N)) (t : List Entry) → length given ≡ length rebuilt
        → ((p : ℕ) → p < old.config.members → IsDown (knowledge old) p → slice_index_or given p (blank old.outside) ≡ record (current p) { table = t }) → IsReplaying next old given
    replaying-tables given t size same = record {
      size = size ∙ replaying.size;
      replayed = λ p below down. rw (same p below down) (assumption (replaying.replayed p below down));
      begun = λ p below down. rw (same p below down) (replaying.begun p below down);
    }

    -- a member that is down goes on with a receipt that the gathered tables find
    module _ (p : ℕ) (below : p < old.config.members) (down : IsDown (knowledge old) p) (d : Determinant) where
      module _ (note : N) where
        abbrev after : MemberRecord S N
        after = replayed_by next p old.config.members (current p) d note

        own : slice_index_or (slice_set rebuilt p after) p (blank old.outside) ≡ after
        own = get_or-set_same rebuilt p after (blank old.outside) (omega (arith, replaying.size, below))

        -- one more is replayed
        pub replayed_in-step : replayed_in old (slice_set rebuilt p after) ≡ replayed_in old rebuilt + 1
        replayed_in-step = search (arith, count_in-step, own, get_or-set_other)

      module _ (is : found p ((current p).received + 1) (recovery_table (knowledge old)) ≡ Some d) where
        -- it is that of the member's next number, from another member
        pub replaying-next : IsNextReplay old.config.members p (current p) d
        replaying-next =
            let here = found-receipt p (current p).received d is in
            let has = receipts_at-Has old.config.members (map mark_of (recovered_trace old)) p (current p).received d lawful.well_formed here in
            let may = lawful.well_formed has.0.0 (receipt_of d) has.0.1 in
            grind (arith, nat_tests, found-receipt, receipts_at-Has, slice_get_within, length-receipts_at, count_by-le-length, cut-short)

        module _ (note : N) (named : logged_note (working old rebuilt d.from).log d.ssn ≡ Some note) where
          there : Replays p (after note)
          there =
              replayed-step lawful.well_formed (replaying.replayed p below down) (found-receipt p (current p).received d is)
              (logged-noted lawful (working-replays d.from replaying-next.from) d.ssn note named)

          -- its step's sends have room in the log
          pub replaying-room : length (current p).log + length (next.step p old.config.members (current p).state note).sends.items ≤ 8192
          replaying-room = simp (length-append, length-numbered) at (replays-log p (after note) there)

          -- its replay
          pub replay_is_right : IsReplaying next old (slice_set rebuilt p (after note))
          replay_is_right = search (arith, length-set, cases_eq, own, there, get_or-set_other)

    -- where each member that is down waits, all is replayed
    module _ (waiting : (p : ℕ) → p < old.config.members → IsDown (knowledge old) p → IsWaiting old rebuilt p) where
      -- a message whose sender has replayed all that comes before it is in the sender's log
      sent-again : (q k to : ℕ) → q < old.config.members → Has (map mark_of (recovered_trace old)) (Send q k to)
          → IsSentAgain (map mark_of (recovered_trace old)) (λ m. (working old rebuilt m).received) q k to → (note : N) × (logged_note (working old rebuilt q).log k ≡ Some note)
      sent-again q k to below has sent =
          let here = send-at (recovered_trace old) has.0 q k to has.1 in
          logged-by lawful (working-replays q below) has.0 k to here.0 here.1
          (at-most-before old.config.members (map mark_of (recovered_trace old)) q (working old rebuilt q).received has.0 lawful.well_formed
          (λ i c before there at_q. sent c at_q (i, has.0, before, there, has.1)))

      is-stuck : IsStuck (map mark_of (recovered_trace old)) (λ q. (working old rebuilt q).received)
      is-stuck d has number sent =
          let may = lawful.well_formed has.0 (receipt_of d) has.1 in
          let here = Has-receipts_at old.config.members (map mark_of (recovered_trace old)) d.to (working old rebuilt d.to).received d lawful.well_formed has refl number in
          elim (down_or_up old.down d.to) [
            | inr up ↦
                let within = rw up at (slice_get_within (left d.to) (working old rebuilt d.to).received d here) in
                omega (arith, within, (survivor-replays sound cut d.to may.1 up).1)
            | inl down ↦
                let none = waiting d.to may.1 down d (rw down at (found-all d.to (working old rebuilt d.to).received d here)) in
                let front = sent-before old.config.members (map mark_of (recovered_trace old)) lawful.well_formed has.0 d.to d.rsn d.from d.ssn has.1 in
                cc (none, (sent-again d.from d.ssn d.to may.0 (front.0, front.2) sent).1)
          ]

      pub replay_ends : (p : ℕ) → p < old.config.members → IsDown (knowledge old) p → (current p).received ≡ length (left p)
      replay_ends p below down =
          let most = at-most old.config.members (map mark_of (recovered_trace old)) p (working old rebuilt p).received lawful.well_formed (λ d has to.
          subst (λ (x : ℕ). d.rsn ≤ (working old rebuilt x).received) to
          (never_stuck old.config.members (map mark_of (recovered_trace old)) (λ q. (working old rebuilt q).received) lawful.well_formed is-stuck d has)) in
          omega (arith, rw down at most, (replaying.replayed p below down).within)

      -- as many are replayed as the trace has of the members that are down, beyond those of their checkpoints
      pub replayed_in-all : replayed_in old rebuilt ≡ length (filter (is_replayed old) (receipts (map mark_of (recovered_trace old))))
      replayed_in-all = replayed-count sound cut current (λ p. (member_checkpoint old p).received) replay_ends

      -- the events that stay are those that the counts of the members that were down cover
      pub recovered_trace-rebuilt : filter (λ e. stays_by old.down current (mark_of e)) old.trace ≡ recovered_trace old
      recovered_trace-rebuilt = stays_by-cut sound current replaying.replayed replay_ends

      -- so a group with these records, and with channels made again, is the group recovered
      module _ (new : GroupRecord S N) (step : IsRebuilt old new rebuilt) where
        is-lawful : Lawful next new.config.members new.config.starts new.trace
        is-lawful = rw (step.rest.config, step.trace) lawful

        rebuilt-fold : (m : ℕ) → m < old.config.members → IsDown (knowledge old) m → IsFold next new m
        rebuilt-fold m below down =
            replayed-fold is-lawful.well_formed (rw (step.rest.config, step.trace, step.rebuilt m below down) (assumption (replaying.replayed m below down)))
            (rw (step.trace, step.rebuilt m below down) (replay_ends m below down))

        fold-all : (m : ℕ) → m < old.config.members → IsFold next new m
        fold-all = folds-all sound cut new step.trace step.rest.config step.rest.survivors rebuilt-fold

        made : (q p : ℕ) → IsDown (knowledge old) q ⊎ IsDown (knowledge old) p → IsMadeAgain new q p
        made q p down = made-again-if new q p is-lawful.well_formed (rw step.rest.config step.rest.shape) (λ of_q of_p.
            let below_q = rw step.rest.config at of_q in
            let below_p = rw step.rest.config at of_p in
            made-again next new is-lawful q p (fold-all q below_q) (fold-all p below_p) (omega (arith, below_q, sound.config.members.1))
            (step.resent q p down below_q below_p ∙ rw step.rest.config refl))

        pub rebuilt_is_recovered : IsRecovery next old new
        rebuilt_is_recovered = record {
          rest = step.rest;
          trace = rw step.trace cut;
          folds = rebuilt-fold;
          gathered = λ m below down. ap (λ (x : MemberRecord S N). x.table) (step.rebuilt m below down);
          made_again = made;
        }
