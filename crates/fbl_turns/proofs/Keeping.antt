-- What a run of turns keeps.
use Rattle.fbl_turns.proofs.Common.{◌≤◌, Bool, List, Some, ap, arith, false, filter, length, length-set, map, refl, slice_index, suc, sum, sym, take, true, true≢false, ℕ, ◌++◌, ◌+◌, ◌<◌, ◌==◌, ◌∙◌}
use Rattle.fbl_turns.proofs.Common.{◌∷◌, ◌≡◌, nat_tests, length-replicate, filter-append, sum_by-replicate, sum_by-set, nat_cmp_total, nat_cmp, mark_of, member_of, Next, Members, same_from_contains}
use Rattle.fbl_turns.proofs.Common.{Has, Strike, Event, Mark, Recovered, Ticket, IsDelivery, delivery_events, GroupRecord, knowledge, IsEventCut, Stays, Keeps, events_of, is_named, struck_at}
use Rattle.fbl_turns.proofs.Common.{Counts, Turn, more_at, starts, turns, commits, crashes, strikes, [], ◌||◌, take_all, get_or-le-sum_by, length-take, take-append-le, Recovers, IsStrike, TurnsKeep, cond, find, option_map, set_at, Message}
use Rattle.std.specs.FinSet as set

-- ---- pasts

module _ {N : Type 0} where
  begins_more : (first events more : List (Event N)) → take (length first) events ≡ first → take (length first) (events ++ more) ≡ first
  begins_more first events more e = take-append-le (length first) events more (omega (arith, ap length e, length-take (length first) events)) ∙ e

  -- the events of a member of whom all are kept
  all_kept : (m : ℕ) (keep : Mark → Bool) (xs : List (Event N)) → ((e : Mark) → Has (map mark_of xs) e → (member_of e == m) ≡ true → keep e ≡ true)
      → events_of m (filter (λ e. keep (mark_of e)) xs) ≡ events_of m xs
  all_kept m keep [] all = refl
  all_kept m keep (x ∷ xs) all = grind (arith, all_kept m keep xs (λ e has of_m. all e (suc has.0, has.1) of_m), all (mark_of x) (0, refl))

module _ {S N : Type 0} where
  cut : (m : ℕ) (old new : GroupRecord S N) → set.contains old.down m ≡ false → IsEventCut (Stays (knowledge old)) old.trace new.trace → events_of m new.trace ≡ events_of m old.trace
  cut m old new up c = ap (events_of m) c.1 ∙ all_kept m c.0 old.trace (λ e has of_m. (c.2 e has).1 (λ down. absurd (never e of_m down))) where
    never : (e : Mark) → (member_of e == m) ≡ true → set.contains old.down (member_of e) ≡ true → ⊥
    never e of_m down =
        let is : member_of e ≡ m = grind (arith, nat_tests) in
        true≢false (sym down ∙ ap (set.contains old.down) is ∙ up)

-- a member that no set of the plan has is in none that is struck
unnamed : (plan : List Strike) (n : ℕ) (s : Members) (m : ℕ) → struck_at plan n ≡ Some s → is_named plan m ≡ false → set.contains s m ≡ false
unnamed [] n s m at none = cc
unnamed (x ∷ xs) n s m at none = grind (arith, unnamed xs n s m)

-- what is struck at a number stands in the plan
pub planned : (plan : List Strike) (n : ℕ) (s : Members) → struck_at plan n ≡ Some s → (k : ℕ) × (k < length plan) × (set_at plan k ≡ s)
planned [] n s e = cc
planned (x ∷ xs) n s e = at (x.at == n) (λ later. planned xs n s later) e where
  at : (b : Bool) → (struck_at xs n ≡ Some s → (k : ℕ) × (k < length xs) × (set_at xs k ≡ s))
      → option_map (λ (t : Strike). t.set) (cond b (Some x) (find (λ (t : Strike). t.at == n) xs)) ≡ Some s → (k : ℕ) × (k < length (x ∷ xs)) × (set_at (x ∷ xs) k ≡ s)
  at true later e = (0, omega arith, cc)
  at false later e = let rest = later e in (suc rest.0, omega (arith, rest.1), rest.2)

pub none_joined : (s : Members) → set.union set.empty s ≡ s
none_joined s = same_from_contains (set.union set.empty s) s (λ q. set.contains-union {R = nat_cmp} nat_cmp_total set.empty s q ∙ ap (λ b. b || set.contains s q) (set.contains-empty nat_cmp q))

-- ---- turns

-- what is at a place is within the sum
pub at-within : (xs : List ℕ) (w : ℕ) → w < length xs → slice_index xs w ≤ sum xs
at-within xs w below = get_or-le-sum_by (λ (x : ℕ). x) xs w 0 below

pub sum-more : (xs : List ℕ) (w n : ℕ) → w < length xs → sum (more_at xs w n) ≡ sum xs + n
sum-more xs w n below = omega (arith, sum_by-set (λ (x : ℕ). x) xs w (slice_index xs w + n) 0 below)

module _ {S N : Type 0} {plan : List Strike} {workers : ℕ} {start : GroupRecord S N} {made undone : List ℕ} where
  delivered : {next : Next S N} {old new : GroupRecord S N} {v : Message N} (w : ℕ) → w < workers → IsDelivery next old new v
      → Keeps plan workers start old made undone → Keeps plan workers start new (more_at made w 1) undone
  delivered {next} {old} {new} {v} w below d k = record {
    config = d.config ∙ k.config;
    checkpoints = d.checkpoints ∙ k.checkpoints;
    past = λ m free.
        (let more : events_of m new.trace ≡ events_of m old.trace ++ events_of m (delivery_events next old v) =
        ap (events_of m) d.trace ∙ filter-append (λ e. member_of (mark_of e) == m) old.trace (delivery_events next old v) in
        rw more (begins_more (events_of m start.trace) (events_of m old.trace) (events_of m (delivery_events next old v)) (k.past m free)));
    receipts = omega (arith, d.receipts_ever, sum-more made w 1);
    undone_ever = d.undone_ever ∙ k.undone_ever;
    empty = k.empty;
    places = (length-set made _ _ ∙ k.places.0, k.places.1);
  }

  struck : {next : Next S N} {old new : GroupRecord S N} {s : Members} → IsStrike next old new s → Keeps plan workers start old made undone → Keeps plan workers start new made undone
  struck strike k = record {
    config = strike.config ∙ k.config;
    checkpoints = strike.checkpoints ∙ k.checkpoints;
    past = λ m free. rw strike.trace (k.past m free);
    receipts = strike.receipts_ever ∙ k.receipts;
    undone_ever = strike.undone_ever ∙ k.undone_ever;
    empty = k.empty;
    places = k.places;
  }

  recovered : {next : Next S N} {old new : GroupRecord S N} {s : Members} {answer : Recovered} (w n : ℕ) → w < workers → struck_at plan n ≡ Some s → old.down ≡ s
      → Recovers next old new answer → Keeps plan workers start old made undone → Keeps plan workers start new made (more_at undone w answer.undone)
  recovered {old = old} {new = new} {s = s} {answer = answer} w n below at down back k =
      let rest = back.recovery.rest in
      record {
        config = rest.config ∙ k.config;
        checkpoints = rest.checkpoints ∙ k.checkpoints;
        past = λ m free. rw (cut m old new (ap (λ (t : Members). set.contains t m) down ∙ unnamed plan n s m at free) back.recovery.trace) (k.past m free);
        receipts = rest.receipts_ever ∙ k.receipts;
        undone_ever = omega (arith, rest.undone_ever, back.undone, sum-more undone w answer.undone);
        empty = λ none. absurd (omega (arith, none, (planned plan n s at).1));
        places = (k.places.0, length-set undone _ _ ∙ k.places.1);
      }

module _ {S N : Type 0} where
  one_turn : {next : Next S N} {plan : List Strike} {workers w : ℕ} {ticket : Ticket S N} (start old new : GroupRecord S N) (before after : Counts) {ends : Bool} → w < workers
      → Turn next plan w ticket old before new after ends → Keeps plan workers start old before.by_worker before.undone_by_worker
      → Keeps plan workers start new after.by_worker after.undone_by_worker
  one_turn {w = w} start old new before after below (commits _ commit none) k = delivered w below commit.1.1.2.delivery k
  one_turn {w = w} start old new before after below (crashes between _ s back commit at crash) k =
      let d = commit.1.1.2.delivery in
      let strike = crash.1.1.1.0 in
      recovered w between.receipts_ever below at (strike.down ∙ ap (λ (t : Members). set.union t s) (d.down ∙ d.nobody_down) ∙ none_joined s) crash.1.1.2 (struck strike (delivered w below d k))
  one_turn {w = w} start old new before after below (strikes between _ s commit at strike) k = struck strike.1.1.0 (delivered w below commit.1.1.2.delivery k)
  one_turn start old new before after below refused k = k

  -- a turn makes one receipt at most
  pub one_at_most : {next : Next S N} {plan : List Strike} {w : ℕ} {ticket : Ticket S N} {old new : GroupRecord S N} {before after : Counts} {ends : Bool}
      → Turn next plan w ticket old before new after ends → (old.receipts_ever ≤ new.receipts_ever) × (new.receipts_ever ≤ old.receipts_ever + 1)
  one_at_most (commits _ commit none) = let d = commit.1.1.2.delivery.receipts_ever in (omega (arith, d), omega (arith, d))
  one_at_most (crashes between _ s back commit at crash) =
      let d = commit.1.1.2.delivery.receipts_ever in
      let struck = crash.1.1.1.0.receipts_ever in
      let recovered = crash.1.1.2.recovery.rest.receipts_ever in (omega (arith, d, struck, recovered), omega (arith, d, struck, recovered))
  one_at_most (strikes between _ s commit at strike) =
      let d = commit.1.1.2.delivery.receipts_ever in
      let struck = strike.1.1.0.receipts_ever in (omega (arith, d, struck), omega (arith, d, struck))
  one_at_most refused = (omega arith, omega arith)

  pub kept : TurnsKeep S N
  kept next plan workers start new counts starts = record {
    config = refl;
    checkpoints = refl;
    past = λ m free. take_all (length (events_of m start.trace)) (events_of m start.trace) (omega arith);
    receipts = omega (arith, sum_by-replicate (λ (x : ℕ). x) workers 0);
    undone_ever = omega (arith, sum_by-replicate (λ (x : ℕ). x) workers 0);
    empty = λ none. omega (arith, sum_by-replicate (λ (x : ℕ). x) workers 0);
    places = (length-replicate workers 0, length-replicate workers 0);
  }
  kept next plan workers start new counts (turns old _ before _ w ticket run below turn) =
      one_turn start old new before counts below turn (kept next plan workers start old before run)
