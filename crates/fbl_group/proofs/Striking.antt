-- Strikes and checkpoints: when a strike is refused, what they leave, and the theorem.
pub use Rattle.fbl_group.proofs.Common.{◌≡◌, ◌≢◌, ℕ, suc, ◌<◌, ◌≤◌, ◌==◌, ◌||◌, true, false, cond, List, [], ◌∷◌, length, map, None, refl, sym, ◌∙◌, arith, nat_lt, count_by, slice_index_or, nat_tests, get_or_default, get_or_past, sum_by-cons, Determinant, Event, mark_of, Members, Next, MemberRecord, blank, IsUp, GroupRecord, channel, marks, knowledge, IsSound, IsStrike, AreReplaced, lost_receipts, filter, not, receipts}
pub use Rattle.fbl_group.proofs.Common.{is_lost_receipt_of, Message, no_orphan, nat_cmp, eq_by_cmp, unsigned_tied, nat_cmp_total, false≢true, true_from_ne_false, ◌↔◌, Any-from_list_any, list_any-from_Any, AllPass-from_list_all, list_all-from_AllPass, receipt_of, Has, itself, AllBelow, eqb-self, is_recorded, group_strike_keeps, recorded_test, is_within, strike_refusal, AreRecordsReplaced, get_or, slice_set, IsCheckpoint}
pub use Rattle.fbl_group.proofs.Common.{sound_holds_each_receipt, recovery_leaves_recorded, cut-undone, group_recovery_gains_holders, subst, group_checkpoint_keeps, ap, trace_fits, len-empty}
use Rattle.std.specs.FinSet as set
use Rattle.fbl_trace.specs.declared.trace.Event.TheVariants as event
use Rattle.std.specs.Prelude.{Bool}
use Rattle.fbl_group.proofs.Common.{inl, inr, contains-union, is_replayed, IsRecovery, len-within, recovery_exists, recovery_is_one, strikes_join}
use Rattle.fbl_group.proofs.Recovering.{read_at}
use Rattle.fbl_group.specs.declared.answers.Recovered.{Recovered}
use Rattle.fbl_group.specs.Strikes.{Recovers, messages_at}
use Rattle.fbl_group.specs.Laws.{StrikesAreOne}
use Rattle.fbl_group.specs.Theorem.{AreStruck, HasOneRecovery, IsRecoverable, Restores}
use Rattle.fbl_group.specs.Theorem.AreStruck.{nobody, and_these}

-- the test of who is below n
pub within-below : (s : Members) (n : ℕ) → is_within s n ≡ true → AllBelow s n
within-below s n within q among =
    let one = Any-from_list_any (eq_by_cmp nat_cmp q) (set.items s) (sym (set.contains-items s q) ∙ among) in
    let below : nat_lt one.1 n ≡ true = rw one.3 at (AllPass-from_list_all (λ m. nat_lt m n) (set.items s) within one.0 one.1 one.2) in
    let same : (q == one.1) ≡ true = sym (unsigned_tied q one.1) ∙ one.4 in
    grind (arith, nat_tests)

below-within : (s : Members) (n : ℕ) → AllBelow s n → is_within s n ≡ true
below-within s n below = list_all-from_AllPass (λ m. nat_lt m n) (set.items s) (λ k d less.
    let m : ℕ = slice_index_or (set.items s) k d in
    let among = list_any-from_Any (eq_by_cmp nat_cmp m) (set.items s) (k, m, less, get_or_default (set.items s) k m d less, unsigned_tied m m ∙ eqb-self m) in
    let within : m < n = below m (set.contains-items s m ∙ among) in
    grind (arith, nat_tests))

pub within-tested : (s : Members) (n : ℕ) (b : Bool) → (b ≡ true) ↔ AllBelow s n → b ≡ is_within s n
within-tested s n true is = sym (below-within s n (is.0 refl))
within-tested s n false is = grind (arith, within-below s n)

-- what a strike that is allowed leaves
module _ {S N : Type 0} {next : Next S N} {old : GroupRecord S N} {struck down : Members} {members : List (MemberRecord S N)} {channels : List (List (List (Message N)))} (sound : IsSound next old)
    (allowed : strike_refusal old struck ≡ None) (blanked : AreRecordsReplaced old.outside struck (λ m. blank (next.initial m old.config.members)) old.members members)
    (emptied : AreReplaced old.config.members struck (λ q p. []) old.channels channels) (joined : down ≡ set.union old.down struck) where
  abbrev new : GroupRecord S N
  new = record old { members = members; channels = channels; down = down }

  -- who is down was down before or is struck
  both_down : (m : ℕ) → set.contains down m ≡ (set.contains old.down m || set.contains struck m)
  both_down m = rw joined (set.contains-union {R = nat_cmp} nat_cmp_total old.down struck m)

  -- a channel is emptied where one of its ends is struck, and no other is
  emptied_where : (q p : ℕ) → channel new q p ≡ cond (set.contains struck q || set.contains struck p) [] (channel old q p)
  emptied_where q p = grind (arith, get_or_past, emptied.each q p)

  -- those that are struck are of the group, and have blank records
  struck_blank : (m : ℕ) → set.contains struck m ≡ true → slice_index_or members m (blank old.outside) ≡ blank (next.initial m old.config.members)
  struck_blank m is = blanked.replaced m (omega (arith, sound.members, within-below struck old.config.members (grind (arith, nat_tests)) m is)) is

  pub is_strike : IsStrike next old new struck
  is_strike = grind (arith, struck_blank, blanked.size, blanked.others, emptied, emptied_where, both_down, sound.blanks, sound.down, sound.causes.down.channels)

module _ {S N : Type 0} where
  -- a strike of some members of the group is allowed where with those that are down they are few
  pub is_allowed : (struck : Members) {r now : GroupRecord S N} → r ≡ now → {n : ℕ} → n ≡ r.config.members → AllBelow struck n → set.len struck ≢ 0
      → {both : Members} → both ≡ set.union r.down struck → set.len both ≤ r.config.f → strike_refusal now struck ≡ None
  is_allowed struck {r = r} view {n = n} all below some joined few =
      let inside : is_within struck r.config.members ≡ true = rw (← all) (below-within struck n below) in
      rw (← view) grind (arith, nat_tests)

  -- in a sound group each receipt of a member that is up is recorded
  up-recorded : (next : Next S N) (r : GroupRecord S N) (d : Determinant) → IsSound next r → Has (marks r) (receipt_of d) → IsUp (knowledge r) d.to → is_recorded r d ≡ true
  up-recorded next r d sound there up =
      true_from_ne_false (is_recorded r d)
      (λ is. no_orphan r.config.f (knowledge r) sound.causes.closed d.to (up, (d, (receipt_of d, itself there, refl), λ recorded. false≢true (sym is ∙ (recorded_test next r d sound).1 recorded))))

  -- so the receipts that nobody has recorded are all of members that are down
  lost-counted : (r : GroupRecord S N) (events : List (Event N)) → ((d : Determinant) → Has (map mark_of events) (receipt_of d) → IsUp (knowledge r) d.to → is_recorded r d ≡ true)
      → count_by (is_lost_receipt_of r.down r.members r.checkpoints) events ≡ length (filter (λ d. not (is_recorded r d)) (receipts (map mark_of events)))
  lost-counted r [] up = refl
  lost-counted r (event.Send q k p note ∷ events) up =
      let later = lost-counted r events (λ d there. up d (suc there.0, there.1)) in
      omega (arith, sum_by-cons (λ e. cond (is_lost_receipt_of r.down r.members r.checkpoints e) 1 0) (event.Send q k p note) events, later)
  lost-counted r (event.Receipt p n q k ∷ events) up =
      let later = lost-counted r events (λ d there. up d (suc there.0, there.1)) in
      let here = up (record { from = q; ssn = k; to = p; rsn = n }) (0, refl) in
      grind (arith, sum_by-cons (λ e. cond (is_lost_receipt_of r.down r.members r.checkpoints e) 1 0) (event.Receipt p n q k) events, later, here)

  pub count-lost : (next : Next S N) (r : GroupRecord S N) → IsSound next r → count_by (is_lost_receipt_of r.down r.members r.checkpoints) r.trace ≡ length (lost_receipts r)
  count-lost next r sound = lost-counted r r.trace (λ d. up-recorded next r d sound)

-- ---- checkpoints

-- a record that is read at the member's place is copied there, in a group as its contract has it
module _ {S N : Type 0} {next : Next S N} {old now : GroupRecord S N} (sound : IsSound next old) (view : old ≡ now) {p place : ℕ} (is_place : place ≡ p) (below : p < now.config.members)
    (none_down : set.len now.down ≡ 0) {copy read : MemberRecord S N} (same : copy ≡ read) (is : read ≡ get_or old.members place read) where
  within : p < old.config.members
  within = rw view below

  pub is_checkpoint : IsCheckpoint now (record old { checkpoints = slice_set old.checkpoints place copy }) p
  is_checkpoint = rw (← view) (record {
    nobody_down = set.empty_of_len old.down (rw view none_down);
    below = within;
    saved = rw (is_place, same, read_at old.outside old.members is_place (omega (arith, within, sound.members)) is) refl;
  })

-- ---- the theorem: strikes keep a group sound, and of a sound group each part holds

module _ {S N : Type 0} (next : Next S N) where
  -- a strike that is allowed keeps a group sound
  pub strike_keeps : (old new : GroupRecord S N) (struck : Members) → strike_refusal old struck ≡ None → IsStrike next old new struck → IsSound next old → IsSound next new
  strike_keeps old new struck allowed strike sound =
      group_strike_keeps next old new struck strike (within-below struck old.config.members (grind (arith, nat_tests))) (rw strike.down (grind (arith, nat_tests))) sound

  struck_is_sound : (first : GroupRecord S N) → IsSound next first → (last : GroupRecord S N) → AreStruck next first last → IsSound next last
  struck_is_sound first sound last nobody = sound
  struck_is_sound first sound last (and_these {old} {new} {struck} {answer} before allowed strikes) =
      strike_keeps old last struck allowed strikes.0 (struck_is_sound first sound old before)

  -- a recovery of a sound group restores it
  pub restores : (old new : GroupRecord S N) (answer : Recovered) → IsSound next old → Recovers next old new answer → Restores next old new
  restores old new answer sound recovers = record {
    nobody_down = recovers.recovery.rest.nobody_down;
    survivors = recovers.recovery.rest.survivors;
    channels = recovers.recovery.rest.channels;
    config = recovers.recovery.rest.config;
    trace = recovers.recovery.trace;
    folds = recovers.recovery.folds;
    left = recovery_leaves_recorded S N next old new recovers.recovery sound;
  }

  -- there is one recovery of a sound group
  has_one_recovery : (old : GroupRecord S N) → IsSound next old → HasOneRecovery next old
  has_one_recovery old sound =
      let there = recovery_exists S N next old sound in
      let replayed = λ (new : GroupRecord S N). length (filter (is_replayed old) (receipts (marks new))) in
      let one = λ (other : GroupRecord S N) (is : IsRecovery next old other). recovery_is_one S N next old there.0 other sound there.1 is in
      record {
        new = there.0;
        answer = record { replayed = replayed there.0; resent = messages_at old.down there.0; undone = length (lost_receipts old) };
        recovers = record { recovery = there.1; replayed = refl; resent = refl; undone = omega (arith, cut-undone sound there.1.trace) };
        only = λ other said recovers. (
          one other recovers.recovery,
          λ i. record {
            replayed = (recovers.replayed ∙ ap replayed (one other recovers.recovery)) i;
            resent = (recovers.resent ∙ ap (messages_at old.down) (one other recovers.recovery)) i;
            undone = undone said recovers i;
          },
        );
      }
    where
      undone : {other : GroupRecord S N} (said : Recovered) → Recovers next old other said → said.undone ≡ length (lost_receipts old)
      undone said recovers = omega (arith, cut-undone sound recovers.recovery.trace, recovers.undone)

  pub sound_is_recoverable : (r : GroupRecord S N) → IsSound next r → IsRecoverable next r
  sound_is_recoverable r sound = record {
    held = sound_holds_each_receipt S N next r sound;
    no_orphan = λ struck among. no_orphan struck.config.f (knowledge struck) (struck_is_sound r sound struck among).causes.closed;
    one_recovery = λ struck among. has_one_recovery struck (struck_is_sound r sound struck among);
    recovery = λ struck new answer among. restores struck new answer (struck_is_sound r sound struck among);
  }

-- ---- several strikes are one

module _ {S N : Type 0} (next : Next S N) where
  -- a strike that is allowed and then another are allowed together
  allowed_together : (first old last : GroupRecord S N) (some others : Members) → strike_refusal first some ≡ None → IsStrike next first old some → strike_refusal old others ≡ None
      → IsStrike next old last others → strike_refusal first (set.union some others) ≡ None
  allowed_together first old last some others allowed strike allowed_then strike_then =
      let both = strikes_join S N next first old last some others strike strike_then in
      let below : AllBelow (set.union some others) first.config.members = λ q among. elim ((contains-union some others q).0 among) [
        | inl in_some ↦ within-below some first.config.members (grind (arith, nat_tests)) q in_some
        | inr in_others ↦ within-below others first.config.members (rw strike.config at (inside old others allowed_then)) q in_others
      ] in
      let more = len-within (set.len some) some (set.union some others) refl (λ q among. (contains-union some others q).1 (inl among)) in
      let nonempty : set.len some ≢ 0 = grind (arith, nat_tests) in
      is_allowed (set.union some others) {r = first} refl refl below (λ none. nonempty (omega (arith, more, none))) both.down
      (rw strike_then.down (rw strike.config at (few old others allowed_then)))
    where
      inside : (r : GroupRecord S N) (s : Members) → strike_refusal r s ≡ None → is_within s r.config.members ≡ true
      inside r s allowed = grind (arith, nat_tests)

      few : (r : GroupRecord S N) (s : Members) → strike_refusal r s ≡ None → set.len (set.union r.down s) ≤ r.config.f
      few r s allowed = grind (arith, nat_tests)

pub strikes_are_one : {S N : Type 0} → StrikesAreOne S N
strikes_are_one next first last nobody = inl refl
strikes_are_one next first last (and_these {old} {new} {struck} {answer} before allowed strikes) = elim (strikes_are_one next first old before) [
  | inl same ↦ inr (struck, answer, rw same at allowed, rw same at strikes)
  | inr one ↦ inr (set.union one.0 struck, answer, allowed_together next first old last one.0 struck one.2 one.3.0 allowed strikes.0, (strikes_join _ _ next first old last one.0 struck one.3.0 strikes.0, strikes.1))
]
