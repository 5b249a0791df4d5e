-- Of each sound group there is a recovery, and only one.
use Rattle.fbl_law.proofs.Common.{◌≡◌, ℕ, ◌+◌, ◌<◌, ◌||◌, ◌&&◌, nat_lt, not, inl, inr, cond, ◌⊎◌, List, [], ◌∷◌, length, map, filter, refl, sym, ap, ◌∙◌, arith, nat_tests, cases_lt, get_or_past}
use Rattle.fbl_law.proofs.Common.{Event, mark_of, Next, Lawful, after_notes, received_notes, last_taken, Message, MemberRecord, blank, progress_of, Entry, piggybacked, Contains}
use Rattle.fbl_law.proofs.Common.{GroupRecord, HasChannels, channel, member, marks, knowledge, receipts, is_recorded, IsFold, IsSound, IsUp, IsDown, IsRecovery, IsMadeAgain, recovered_trace, recovery_table, resent_to}
use Rattle.fbl_law.proofs.Common.{Send, in_flight, note_of}
use Rattle.fbl_law.specs.GroupLaws.{RecoveryExists, RecoveryIsOne}
use Rattle.fbl_law.specs.Groups.{channel_in}
use Rattle.fbl_law.specs.CrashFree.{without_carried}
use Rattle.fbl_member.specs.Members.{record_of}
use Rattle.std.specs.FinSet as set
use Rattle.std.specs.List.{range_with_len}
use Rattle.std.proofs.lemmas.List.{ext_get_or}
use Rattle.std.proofs.lemmas.List.FromFn.{get_or-map-range_with_len, length-map-range_with_len}
use Rattle.fbl_law.proofs.Lists.{Contains-at, Contains-here, Contains-there}
use Rattle.fbl_law.proofs.Safe.{down_or_up, down_or_both_up}
use Rattle.fbl_law.proofs.Channels.{made-again, made-again-if}
use Rattle.fbl_law.proofs.Deliveries.{rows_of, rows-shape, rows-at, channel-outside}
use Rattle.fbl_law.proofs.GroupRecovery.{recovered_trace-cut, recovered_lawful, cut-one, cut-undone, folds-all}
use Rattle.fbl_law.proofs.CrashFree.{same_messages}
use Rattle.std.proofs.lemmas.Grind.{same_number_lists}

-- ---- there is one

module _ {S N : Type 0} (next : Next S N) (old : GroupRecord S N) (sound : IsSound next old) where
  abbrev n : ℕ
  n = old.config.members

  abbrev left : List (Event N)
  left = recovered_trace old

  -- a member's record at the fold of the receipts that are left
  abbrev refolded : ℕ → MemberRecord S N
  refolded m =
      record_of (after_notes next m n old.config.starts (received_notes left m)) (map (λ q. last_taken (map mark_of left) q m) (range_with_len 0 16)) (recovery_table (knowledge old))

  abbrev restored : ℕ → MemberRecord S N
  restored m = cond (set.contains old.down m) (refolded m) (member old m)

  -- what a channel has
  abbrev refilled : ℕ → ℕ → List (Message N)
  refilled q p = cond (set.contains old.down q || set.contains old.down p) (resent_to old.config.f q p (restored q) (restored p)) (channel old q p)

  abbrev within : ℕ → ℕ → List (Message N)
  within q p = cond (nat_lt q n && nat_lt p n) (refilled q p) []

  -- the group recovered
  abbrev recovered : GroupRecord S N
  recovered = record old {
    members = map restored (range_with_len 0 n);
    channels = rows_of n within;
    trace = left;
    down = set.empty;
    undone_ever = old.undone_ever + length (filter (λ d. not (is_recorded old d)) (receipts (marks old)));
  }

  lawful : Lawful next n old.config.starts left
  lawful = recovered_lawful next old sound

  has : (m : ℕ) → m < n → member recovered m ≡ restored m
  has m below = get_or-map-range_with_len restored 0 n m m (blank old.outside) below (omega arith)

  size : length recovered.members ≡ n
  size = length-map-range_with_len restored 0 n

  flying : (q p : ℕ) → channel recovered q p ≡ within q p
  flying = rows-at n within (λ q p out. grind (arith, nat_tests))

  survivors : (m : ℕ) → IsUp (knowledge old) m → member recovered m ≡ member old m
  survivors m up = elim (cases_lt m n) [
    | inl below ↦ rw (has m below, up) refl
    | inr past ↦ get_or_past recovered.members m (blank old.outside) (omega (arith, size, past)) ∙ sym (get_or_past old.members m (blank old.outside) (omega (arith, sound.members, past)))
  ]

  refolds : (m : ℕ) → m < n → IsDown (knowledge old) m → member recovered m ≡ refolded m
  refolds m below down = rw (has m below, down) refl

  folds : (m : ℕ) → m < n → IsDown (knowledge old) m → IsFold next recovered m
  folds m below down = record {
    progress = ap progress_of (refolds m below down);
    places = rw (refolds m below down) (length-map-range_with_len (λ q. last_taken (map mark_of left) q m) 0 16);
    last = λ q few. rw (refolds m below down) (get_or-map-range_with_len (λ q. last_taken (map mark_of left) q m) 0 16 q q 0 few (omega arith));
  }

  fold-all : (m : ℕ) → m < n → IsFold next recovered m
  fold-all = folds-all sound (recovered_trace-cut next old sound) recovered refl refl survivors folds

  made : (q p : ℕ) → IsDown (knowledge old) q ⊎ IsDown (knowledge old) p → IsMadeAgain recovered q p
  made q p down = made-again-if recovered q p lawful.well_formed (rows-shape n within) (λ of_q of_p.
      made-again next recovered lawful q p (fold-all q of_q) (fold-all p of_p) (omega (arith, of_q, sound.config.members.1))
      (flying q p ∙ rw (has q of_q, has p of_p) grind (arith, nat_tests, down)))

  recovered_is : IsRecovery next old recovered
  recovered_is = record {
    rest = record {
      nobody_down = refl;
      size = size ∙ sym sound.members;
      survivors = survivors;
      shape = rows-shape n within;
      channels = λ q p up_q up_p. flying q p ∙ grind (arith, nat_tests, channel-outside sound.shape q p);
      config = refl;
      receipts_ever = refl;
      undone_ever = omega (arith, cut-undone sound (recovered_trace-cut next old sound));
      checkpoints = refl;
      outside = refl;
    };
    trace = recovered_trace-cut next old sound;
    folds = folds;
    gathered = λ m below down. ap (λ (x : MemberRecord S N). x.table) (refolds m below down);
    made_again = made;
  }

pub recovery_exists : (S N : Type 0) → RecoveryExists S N
recovery_exists S N next old sound = (recovered next old sound, recovered_is next old sound)

-- ---- there is no other

module _ {N : Type 0} where
  -- messages that carry the same, and are the same but for that
  same_carried : (carried : List Entry) (xs ys : List (Message N)) → map without_carried xs ≡ map without_carried ys
      → ((v : Message N) → Contains xs v → v.carried ≡ carried) → ((v : Message N) → Contains ys v → v.carried ≡ carried) → xs ≡ ys
  same_carried carried [] [] is of_xs of_ys = refl
  same_carried carried [] (y ∷ ys) is of_xs of_ys = absurd cc
  same_carried carried (x ∷ xs) [] is of_xs of_ys = absurd cc
  same_carried carried (x ∷ xs) (y ∷ ys) is of_xs of_ys =
      let rest = same_carried carried xs ys (cc) (λ v among. of_xs v (Contains-there x xs v among)) (λ v among. of_ys v (Contains-there y ys v among)) in
      let but : without_carried x ≡ without_carried y = cc in
      let carries : x.carried ≡ y.carried = of_xs x (Contains-here x xs) ∙ sym (of_ys y (Contains-here y ys)) in
      let first : x ≡ y = (λ i. record (but i) { carried = carries i }) in
      rw (first, rest) refl

  -- channels of one shape with the same messages
  pub same_channels : (n : ℕ) (xs ys : List (List (List (Message N)))) → HasChannels n xs → HasChannels n ys → ((q p : ℕ) → q < n → p < n → channel_in xs q p ≡ channel_in ys q p) → xs ≡ ys
  same_channels n xs ys of_xs of_ys same = ext_get_or [] xs ys (of_xs.senders ∙ sym of_ys.senders) (λ q below.
      let of_q : q < n = omega (arith, below, of_xs.senders) in
      ext_get_or [] _ _ (of_xs.receivers q of_q ∙ sym (of_ys.receivers q of_q)) (λ p below_p. same q p of_q (omega (arith, below_p, of_xs.receivers q of_q))))

module _ {S N : Type 0} (next : Next S N) (old new other : GroupRecord S N) (sound : IsSound next old) (one : IsRecovery next old new) (another : IsRecovery next old other) where
  trace : other.trace ≡ new.trace
  trace = cut-one sound another.trace ∙ sym (cut-one sound one.trace)

  config : other.config ≡ new.config
  config = another.rest.config ∙ sym one.rest.config

  outside : other.outside ≡ new.outside
  outside = another.rest.outside ∙ sym one.rest.outside

  -- a member that was down is at the fold of the same receipts, with the gathered table
  rebuilt_member : (m : ℕ) → m < old.config.members → IsDown (knowledge old) m → member other m ≡ member new m
  rebuilt_member m below down =
      let of_other = another.folds m below down in
      let of_new = one.folds m below down in
      let far : progress_of (member other m) ≡ progress_of (member new m) = (rw (config, trace) at of_other.progress) ∙ sym of_new.progress in
      let numbers = same_number_lists (member other m).last (member new m).last (of_other.places ∙ sym of_new.places) (λ q within.
      let few : q < 16 = omega (arith, within, of_other.places) in
      of_other.last q few ∙ ap (λ (t : List (Event N)). last_taken (map mark_of t) q m) trace ∙ sym (of_new.last q few)) in
      let table = another.gathered m below down ∙ sym (one.gathered m below down) in
      λ i. record { state = (far i).state; received = (far i).received; last = numbers i; log = (far i).log; table = table i }

  same_member : (m : ℕ) → m < old.config.members → member other m ≡ member new m
  same_member m below = elim (down_or_up old.down m) [
    | inr was_up ↦ another.rest.survivors m was_up ∙ sym (one.rest.survivors m was_up)
    | inl down ↦ rebuilt_member m below down
  ]

  same_members : other.members ≡ new.members
  same_members = ext_get_or (blank new.outside) other.members new.members (another.rest.size ∙ sym one.rest.size) (λ m below.
      rw outside at (same_member m (omega (arith, below, another.rest.size, sound.members))))

  same_channel : (q p : ℕ) → q < old.config.members → p < old.config.members → channel other q p ≡ channel new q p
  same_channel q p of_q of_p = elim (down_or_both_up old.down q p) [
    | inr were_up ↦ another.rest.channels q p were_up.0 were_up.1 ∙ sym (one.rest.channels q p were_up.0 were_up.1)
    | inl down ↦
        let of_other = another.made_again q p down in
        let of_new = one.made_again q p down in
        let marks_same = of_other.sends ∙ ap (λ (t : List (Event N)). map (λ ssn. Send q ssn p) (in_flight (map mark_of t) q p)) trace ∙ sym of_new.sends in
        let but = same_messages (note_of new.trace) (channel other q p) (channel new q p) marks_same
        (λ i v here. rw trace at (of_other.notes v (Contains-at (channel other q p) i v here))) (λ i v here. of_new.notes v (Contains-at (channel new q p) i v here)) in
        same_carried (piggybacked new.config.f (member new q).table) (channel other q p) (channel new q p) but
        (λ v among. rw (config, same_member q of_q) at (of_other.carried v among)) of_new.carried
  ]

  undone : other.undone_ever ≡ new.undone_ever
  undone = omega (arith, another.rest.undone_ever, one.rest.undone_ever, ap (λ (t : List (Event N)). length (receipts (map mark_of t))) trace)

  same_group : other ≡ new
  same_group i = record {
    outside = outside i;
    config = config i;
    members = same_members i;
    checkpoints = (another.rest.checkpoints ∙ sym one.rest.checkpoints) i;
    channels = same_channels old.config.members other.channels new.channels another.rest.shape one.rest.shape same_channel i;
    trace = trace i;
    down = (another.rest.nobody_down ∙ sym one.rest.nobody_down) i;
    receipts_ever = (another.rest.receipts_ever ∙ sym one.rest.receipts_ever) i;
    undone_ever = undone i;
  }

pub recovery_is_one : (S N : Type 0) → RecoveryIsOne S N
recovery_is_one S N next old new other sound = same_group next old new other sound
