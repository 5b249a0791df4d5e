-- The steps of a recovery: gathering, replay in rounds, putting records in place, and what it leaves.
pub use Rattle.fbl_group.proofs.Common.{get_or-set_same, get_or-set_other, count_in-same, sum_below-none, replayed_in, AreReplaying, nat_lt, ◌≡◌, ℕ, ◌+◌, ◌<◌, ◌≤◌, Bool, true, false, List, [], length, Option, Some, get_or, refl, sym, ap, ◌∙◌, arith, slice_index_or, slice_set, nat_tests, get_or_default, Determinant, Next, MemberRecord, blank, IsDown, recovery_table, GroupRecord, member_checkpoint, knowledge, IsSound}
pub use Rattle.fbl_group.proofs.Common.{working, IsReplaying, found, receipt_at, logged_note, replayed_by, replay_begins, replaying-next, replay_is_right, replayed_in-step, replaying-tables, AreByNumber, Tries, Rounds, Made, cond, common_steps, Members, AreRecordsReplaced, ◌||◌, ◌⊎◌, ◌-◌, map, Fits, filter, get_or_past, Event, mark_of, Message, IsUp, channel_in, channel, member, marks, receipts, sum_below-agree, Recovers}
pub use Rattle.fbl_group.proofs.Common.{AreReplaced, AreSentAgain, IsReady, w32, w64, ◌^◌, messages_in, is_replayed, stays_by, recovered_trace, resent_to, IsRebuilt, cut-undone, recovered_trace-cut, sent_again-short, with-table, working-log, replayed_in-all, recovered_trace-rebuilt, rebuilt_is_recovered, messages_at, IsRecovery, set-get_or, made-more, Entry, made_none, rows, subst, group_recovery_keeps}
pub use Rattle.fbl_group.proofs.Common.{replaying-room, replayed_in-short, deque_items, length-map, sent_again, length-set, contains}
use Rattle.std.specs.FinSet as set
use mir.Val.{bool_byte}
use Rattle.std.specs.Prelude.{◌∷◌}
use Rattle.std.proofs.lemmas.List.Sums.{length-filter, count_by-le-length}
pub use Rattle.fbl_group.proofs.Queues.{Turned, made-mapped}
use Rattle.fbl_group.proofs.Reading.{received-twice}

module _ {S N : Type 0} where
  -- a record that is read at a place of the list, whatever stands past its end
  pub read_at : (outside : S) (ms : List (MemberRecord S N)) {place i : ℕ} {m : MemberRecord S N} → place ≡ i → i < length ms → m ≡ get_or ms place m → m ≡ slice_index_or ms i (blank outside)
  read_at outside ms {i = i} {m = m} is below read = grind (arith, get_or_default)

-- what is left of a list is all of it where it is as long
nothing_dropped : {X : Type 0} (p : X → Bool) (xs : List X) → length (filter p xs) ≡ length xs → filter p xs ≡ xs
nothing_dropped p [] same = refl
nothing_dropped p (x ∷ xs) same = grind (arith, length-filter p xs, count_by-le-length p xs, nothing_dropped p xs)

pub one-at-most : (b : Bool) → bool_byte b ≤ 1
one-at-most true = omega arith
one-at-most false = omega arith

-- a loop over the numbers below n is done
pub all-done : {i n m : ℕ} → n ≤ i → i ≤ n → n ≡ m → i ≡ m
all-done past within is = omega (arith, past, within, is)

module _ {S N : Type 0} {next : Next S N} {r : GroupRecord S N} {i count : ℕ} {first before : List (MemberRecord S N)} (so_far : Rounds next r i first before count) where
  -- one more member that replays or waits
  pub round-step : {k one : ℕ} (b : Bool) (after : List (MemberRecord S N)) → k ≡ i → one ≡ bool_byte b → Tries next r k before after b → Rounds next r (i + 1) first after (count + one)
  round-step true after is_k is_one tried = record { replaying = tried.0; counted = omega (arith, so_far.counted, tried.1, is_one); waiting = λ none. absurd (omega (arith, is_one, none)) }
  round-step false after is_k is_one tried = grind arith

  -- one more that is up
  pub round-up : set.contains r.down i ≡ false → Rounds next r (i + 1) first before count
  round-up up = grind arith

module _ {S N : Type 0} {next : Next S N} {r : GroupRecord S N} (sound : IsSound next r) where
  -- each member that is down begins at its checkpoint, with the gathered table, and has replayed nothing yet
  module _ {rebuilt : List (MemberRecord S N)} {i : ℕ} (all : i ≡ r.config.members)
      (made : Made (blank r.outside) (λ p x. set.contains r.down p ≡ true → x ≡ record (member_checkpoint r p) { table = recovery_table (knowledge r) }) i rebuilt) where
    begins : (p : ℕ) → p < r.config.members → IsDown (knowledge r) p → slice_index_or rebuilt p (blank r.outside) ≡ record (member_checkpoint r p) { table = recovery_table (knowledge r) }
    begins p below = made.each p (omega (arith, all, below))

    pub begun : AreReplaying next r rebuilt
    begun = record {
      replaying = replaying-tables next r sound r.checkpoints (replay_begins next r sound r.checkpoints sound.checkpoints (λ p below down. refl)) rebuilt (recovery_table (knowledge r))
          (made.size ∙ all ∙ sym sound.checkpoints) begins;
      tables = λ p below down. ap (λ (m : MemberRecord S N). m.table) (begins p below down);
    }

    pub none-replayed : replayed_in r rebuilt ≡ 0
    none-replayed = count_in-same r.down _ (λ p. 0) r.config.members (λ p below down. omega (arith, ap (λ (m : MemberRecord S N). m.received) (begins p below down))) ∙ sum_below-none r.config.members _ (λ q. grind arith)

  -- what one try needs, and what it leaves
  module _ {rebuilt : List (MemberRecord S N)} {p place : ℕ} {m : MemberRecord S N} (replaying : IsReplaying next r rebuilt) (down : set.contains r.down p ≡ true) (is_place : place ≡ p)
      (read : m ≡ get_or rebuilt place m) where
    pub is-record : m ≡ slice_index_or rebuilt p (blank r.outside)
    is-record = read_at r.outside rebuilt is_place (omega (arith, sound.down p down, replaying.size)) read

    -- the receipt that is sought by its number: the next one is beyond the checkpoint
    module _ {numbered : List (List (Option Determinant))} {row : List (Option Determinant)} {rsn : ℕ} {answer : Option Determinant} (by_number : AreByNumber r numbered)
        (read_row : row ≡ get_or numbered place row) (sought : answer ≡ receipt_at row (rsn + 1)) (is_rsn : rsn ≡ m.received) where
      pub looked-up : answer ≡ found p ((slice_index_or rebuilt p (blank r.outside)).received + 1) (recovery_table (knowledge r))
      looked-up =
          let received : rsn ≡ (slice_index_or rebuilt p (blank r.outside)).received = is_rsn ∙ ap (λ (x : MemberRecord S N). x.received) is-record in
          let beyond : nat_lt (member_checkpoint r p).received (rsn + 1) ≡ true = grind (arith, nat_tests, replaying.begun p (sound.down p down) down) in
          let is_row : row ≡ slice_index_or numbered p [] = grind (arith, get_or_default, sound.down p down, by_number.size) in
          rw (← received) ((rw is_row at sought) ∙ by_number.each p (sound.down p down) down (rsn + 1) ∙ rw beyond refl)

      pub from-member : {d : Determinant} → answer ≡ Some d → d.from < r.config.members
      from-member {d} is = (replaying-next next r sound rebuilt replaying p (sound.down p down) down d (sym looked-up ∙ is)).from

    -- it is there, and its message is sent again
    module _ {d : Determinant} {note : N} {n : ℕ} (is-found : found p ((slice_index_or rebuilt p (blank r.outside)).received + 1) (recovery_table (knowledge r)) ≡ Some d)
        (logged : logged_note (working r rebuilt d.from).log d.ssn ≡ Some note) (all : n ≡ r.config.members) where
      pub replays-one : ((q : ℕ) → q < r.config.members → IsDown (knowledge r) q → (slice_index_or rebuilt q (blank r.outside)).table ≡ recovery_table (knowledge r))
          → {after : MemberRecord S N} → after ≡ replayed_by next p n m d note → Tries next r p rebuilt (slice_set rebuilt place after) true
      replays-one tables is_after = rw (is_place, is_after, all, is-record) (
        record {
          replaying = replay_is_right next r sound rebuilt replaying p (sound.down p down) down d is-found note logged;
          tables = λ q below down_q. grind (arith, get_or-set_same, get_or-set_other, tables q below down_q, replaying.size);
        },
        replayed_in-step next r sound rebuilt replaying p (sound.down p down) down d note,
      )

-- ---- the loops that put records in place

module _ {S N : Type 0} where
  -- a member of the set has this record, another what it had
  abbrev pub IsPut : S → Members → (ℕ → MemberRecord S N) → List (MemberRecord S N) → ℕ → MemberRecord S N → Type 0
  IsPut outside s by old m x = x ≡ cond (set.contains s m) (by m) (slice_index_or old m (blank outside))

  -- the members of the set below i are put back, and what was rebuilt from i on is not taken yet
  pub record Putting (outside : S) (down : Members) (given old : List (MemberRecord S N)) (i : ℕ) (members rebuilt : List (MemberRecord S N)) : Type 0 where
    pub turned : Turned (blank outside) (IsPut outside down (λ m. slice_index_or given m (blank outside)) old) i old members
    pub left : Turned (blank outside) (λ m x. Unit {0}) i given rebuilt

module _ {S N : Type 0} {outside : S} {down : Members} {given old : List (MemberRecord S N)} {i : ℕ} {members rebuilt : List (MemberRecord S N)} (so_far : Putting outside down given old i members rebuilt) where
  pub put-down : {place : ℕ} {x : MemberRecord S N} (y : MemberRecord S N) → place ≡ i → i < length old → i < length given → set.contains down i ≡ true
      → x ≡ get_or rebuilt place x
      → Putting outside down given old (i + 1) (slice_set members place x) (slice_set rebuilt place y)
  put-down y is_place below within is read = grind (arith, common_steps, get_or_default)

  pub put-up : set.contains down i ≡ false → Putting outside down given old (i + 1) members rebuilt
  put-up up = grind arith

module _ {S N : Type 0} where
  -- where a loop over all members puts records, exactly those of the set are replaced
  pub replaced-end : {outside : S} {s : Members} {by : ℕ → MemberRecord S N} {i : ℕ} {old new : List (MemberRecord S N)} → Turned (blank outside) (IsPut outside s by old) i old new → length old ≤ i
      → AreRecordsReplaced outside s by old new
  replaced-end turned all = record {
    size = turned.size;
    replaced = λ m below is. grind (arith, turned.done m);
    others = λ m up. grind (arith, turned.done m, turned.rest m);
  }

-- ---- what a recovery leaves, once the records that were rebuilt are in place

-- a recovery of a sound group, of the group as its contract has it, once the records are rebuilt
module _ {S N : Type 0} {next : Next S N} {old now : GroupRecord S N} {rebuilt : List (MemberRecord S N)} {replays : ℕ} (sound : IsSound next old) (view : old ≡ now) (is_ready : IsReady next now rebuilt replays) where
  ready : IsReady next old rebuilt replays
  ready = rw view is_ready

  abbrev replaying : IsReplaying next old rebuilt
  replaying = ready.all.replaying

  pub size : length rebuilt ≡ old.config.members
  size = replaying.size

  abbrev left : List (Event N)
  left = filter (λ e. stays_by old.down (λ p. slice_index_or rebuilt p (blank old.outside)) (mark_of e)) old.trace

  left-is : left ≡ recovered_trace old
  left-is = recovered_trace-rebuilt next old sound rebuilt replaying ready.waiting

  -- no more receipts are left than there were
  fewer-receipts : length (receipts (map mark_of left)) ≤ length (receipts (map mark_of old.trace))
  fewer-receipts = rw left-is (let undone = cut-undone sound (recovered_trace-cut next old sound) in omega (arith, undone))

  -- the channels of n members that are made again
  module _ {n : ℕ} (again : List (List (List (Message N)))) (all : n ≡ old.config.members) (each : AreSentAgain now rebuilt again) where
    made : AreSentAgain old rebuilt again
    made = rw view each

    -- what is sent again on a channel is at most what the trace may have
    pub short-again : (q p : ℕ) → q < n → p < n → length (channel_in again q p) ≤ 8192
    short-again q p below_q below_p =
        rw (made q p (omega (arith, all, below_q)) (omega (arith, all, below_p)))
        (sent_again-short old.config.f old.down (working old rebuilt) q p 8192 (working-log next old sound rebuilt replaying q (omega (arith, all, below_q))))

  -- the trace that is cut
  module _ {s : Members} {rest : List (Event N)} (is_down : s ≡ now.down) (is_cut : rest ≡ filter (λ e. stays_by s (λ p. slice_index_or rebuilt p (blank old.outside)) (mark_of e)) old.trace) where
    same-down : s ≡ old.down
    same-down = rw view is_down

    cut-left : rest ≡ left
    cut-left = (rw same-down at is_cut)

    -- where no event is dropped it has as many receipts as before
    pub all-left : {before events : ℕ} {last : List (Event N)} → before ≡ length (receipts (marks now)) → events ≡ length old.trace → last ≡ rest → length last ≡ events
        → length (receipts (map mark_of last)) ≡ before
    all-left {last = last} counted all is_last same =
        let kept : last ≡ filter (λ e. stays_by s (λ p. slice_index_or rebuilt p (blank old.outside)) (mark_of e)) old.trace = is_last ∙ is_cut in
        let whole = nothing_dropped (λ e. stays_by s (λ p. slice_index_or rebuilt p (blank old.outside)) (mark_of e)) old.trace (sym (ap length kept) ∙ same ∙ all) in
        ap (λ (l : List (Event N)). length (receipts (map mark_of l))) (kept ∙ whole) ∙ sym (rw view counted)

    -- its receipts, counted before and after
    module _ {before after : ℕ} {last : List (Event N)} (counts_first : before ≡ length (receipts (marks now)))
        (counts_last : after ≡ length (receipts (map mark_of last))) (is_last : last ≡ rest) where
      abbrev undone : ℕ
      undone = before - after

      first-counted : before ≡ length (receipts (marks old))
      first-counted = rw view counts_first

      last-counted : after ≡ length (receipts (map mark_of left))
      last-counted = (rw (is_last, cut-left) at counts_last)

      pub fewer : after ≤ before
      fewer = omega (arith, first-counted, last-counted, fewer-receipts)

      undone-left : undone + length (receipts (map mark_of left)) ≡ length (receipts (map mark_of old.trace))
      undone-left = omega (arith, fewer, first-counted, last-counted)

      -- they are few, and the counter of undone receipts stays within that of all receipts
      pub undone-few : Fits w32 undone
      undone-few = omega (arith, undone-left, sound.counted, received-twice next old sound, sound.room, sound.config.limit.1)

      pub undone-fits : old.receipts_ever < 2 ^ 64 → Fits w64 (old.undone_ever + undone)
      undone-fits fits = omega (arith, fits, undone-left, sound.counted)

      -- the group that is left
      module _ {members : List (MemberRecord S N)} {channels : List (List (List (Message N)))} {down : Members} {n : ℕ} (again : List (List (List (Message N))))
          (all : n ≡ old.config.members) (each : AreSentAgain now rebuilt again) (put : AreRecordsReplaced old.outside s (λ m. slice_index_or rebuilt m (blank old.outside)) old.members members)
          (replaced : AreReplaced n old.down (channel_in again) old.channels channels) (nobody_down : down ≡ set.empty) where
        abbrev new : GroupRecord S N
        new = record old { members = members; channels = channels; trace = rest; down = down; undone_ever = old.undone_ever + undone }

        placed : AreRecordsReplaced old.outside old.down (λ m. slice_index_or rebuilt m (blank old.outside)) old.members members
        placed = (rw same-down at put)

        remade : AreReplaced old.config.members old.down (channel_in again) old.channels channels
        remade = (rw all at replaced)

        works : (q : ℕ) → q < old.config.members → member new q ≡ working old rebuilt q
        works q below = grind (arith, placed.replaced q, placed.others q, sound.members)

        -- a channel with an end that was down has what its sender sends again
        resent_on : (q p : ℕ) → IsDown (knowledge old) q ⊎ IsDown (knowledge old) p → q < old.config.members → p < old.config.members
            → channel new q p ≡ resent_to old.config.f q p (member new q) (member new p)
        resent_on q p down below_q below_p = grind (arith, remade.each q p, made again all each q p, works q, works p)

        -- the others stay
        survive : (q p : ℕ) → IsUp (knowledge old) q → IsUp (knowledge old) p → channel new q p ≡ channel old q p
        survive q p up_q up_p = grind (arith, get_or_past, remade.each q p, remade.shape, sound.shape)

        -- how many messages are sent again
        counted : messages_in old.config.members again ≡ messages_at old.down new
        counted = sum_below-agree old.config.members _ _ (λ q below_q. sum_below-agree old.config.members _ _ (λ p below_p. one q p below_q below_p)) where
          one : (q p : ℕ) → q < old.config.members → p < old.config.members
              → length (channel_in again q p) ≡ cond (set.contains old.down q || set.contains old.down p) (length (channel new q p)) 0
          one q p below_q below_p = grind (arith, remade.each q p, made again all each q p)

        marks_left : length (receipts (marks new)) ≡ length (receipts (map mark_of left))
        marks_left = ap (λ (es : List (Event N)). length (receipts (map mark_of es))) cut-left

        is_rebuilt : IsRebuilt old new rebuilt
        is_rebuilt =
            let table = λ (m : ℕ). with-table (slice_index_or rebuilt m (blank old.outside)) (recovery_table (knowledge old)) in
            grind (arith, nobody_down, placed, remade.shape, survive, cut-left, left-is, undone-left, marks_left, ready.all.tables, table, sound.members, resent_on)

        is_recovery : IsRecovery next old new
        is_recovery = rebuilt_is_recovered next old sound rebuilt replaying ready.waiting new is_rebuilt

        -- what is answered, from the number of messages that are sent again
        pub recovers : {messages : ℕ} → messages ≡ messages_in n again → Recovers next now new (record { replayed = replays; resent = messages; undone = undone })
        recovers resent = rw (← view) (record {
          recovery = is_recovery;
          replayed = ready.counted ∙ replayed_in-all next old sound rebuilt replaying ready.waiting
              ∙ ap (λ (es : List (Event N)). length (filter (is_replayed old) (receipts (map mark_of es)))) (sym (cut-left ∙ left-is));
          resent = (rw all at resent) ∙ counted;
          undone = omega (arith, undone-left, marks_left);
        })
