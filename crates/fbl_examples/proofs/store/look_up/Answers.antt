use Rattle.std.proofs.Common.{◌≡◌, ◌≢◌, ◌∙◌, ℕ, zero, suc, ◌<◌, ◌≤◌, ◌%◌, ◌==◌, ◌⊎◌, Bool, true, false, cond, List, length, inl, inr, ap, sym, refl, sum, replicate, slice_index, arith, rules}
use Rattle.std.specs.FinSet as set
use Rattle.std.proofs.lemmas.Bool.{cases_lt, eqb-true}
use Rattle.std.proofs.lemmas.Bool.Decides.{nat_tests}
use Rattle.std.proofs.lemmas.List.{get_or_past}
use Rattle.std.proofs.lemmas.List.Sums.{get_or-le-sum_by}
use Rattle.fbl_trace.proofs.Gets.{get_or-same}
use Rattle.fbl_law.proofs.Lists.{sum_below-none}
use Rattle.fbl_law.specs.Groups.{member as record_of, sum_below, received_notes}
use Rattle.fbl_trace.specs.Fold.{state_after}
use Rattle.fbl_behaviours.specs.Shards.{shard_next, shard_value}
use Rattle.fbl_examples.proofs.store.look_up.Goals as goal

-- what a member has of a key is what its owner has, or nothing
seen : (values : ℕ → List ℕ) (n key value m : ℕ) → (key % n ≢ m → slice_index (values m) key ≡ 0)
    → value ≡ slice_index (values (key % n)) key → slice_index (values m) key ≡ cond (m == key % n) value 0
seen values n key value m own is = at (m == key % n) refl where
  at : (its : Bool) → (m == key % n) ≡ its → slice_index (values m) key ≡ cond its value 0
  at true same = ap (λ k. slice_index (values k) key) (eqb-true m (key % n) same) ∙ sym is
  at false other = own (grind (arith, nat_tests))

-- a part of a sum is no more than the sum
part-most : (n : ℕ) (a : ℕ → ℕ) (x : ℕ) → x < n → a x ≤ sum_below n a
part-most zero a x below = absurd (omega arith)
part-most (suc n) a x below = at (cases_lt x n) (part-most n a x) where
  at : (x < n) ⊎ (n ≤ x) → (x < n → a x ≤ sum_below n a) → a x ≤ sum_below (suc n) a
  at (inl less) before = omega (arith, before less)
  at (inr past) before = (let same : x ≡ n = omega arith in omega (arith, ap a same))

one-most : (values : List ℕ) (key : ℕ) → slice_index values key ≤ sum values
one-most values key = at (cases_lt key (length values)) where
  at : (key < length values) ⊎ (length values ≤ key) → slice_index values key ≤ sum values
  at (inl within) = get_or-le-sum_by (λ v. v) values key 0 within
  at (inr past) = omega (arith, get_or_past values key 0 past)

-- a value is no more than what the members that are up have, since one that is down has none
value-most : (values : ℕ → List ℕ) (down : ℕ → Bool) (n key m : ℕ) → m < n → (down m ≡ true → values m ≡ replicate 256 0)
    → slice_index (values m) key ≤ sum_below n (λ k. cond (down k) 0 (sum (values k)))
value-most values down n key m below blank = at (down m) refl where
  at : (is : Bool) → down m ≡ is → slice_index (values m) key ≤ sum_below n (λ k. cond (down k) 0 (sum (values k)))
  at true is = omega (arith, ap (λ (vs : List ℕ). slice_index vs key) (blank is) ∙ get_or-same 256 key 0)
  at false is = omega (arith, part-most n (λ k. cond (down k) 0 (sum (values k))) m below, ap (λ (b : Bool). cond b 0 (sum (values m))) is, one-most (values m) key)

-- first states have no values
none-first : (n : ℕ) → sum_below n (λ m. sum (replicate 256 0)) ≡ 0
none-first n = sum_below-none n (λ m. sum (replicate 256 0)) (λ m. refl)

pub returns-clause-value : goal.returns-clause-value
returns-clause-value c m below =
    let r = c.args.group.now in
    let owner : c.at-owner.result ≡ c.args.key % r.config.members = search rules in
    let is : slice_index c.state.result c.from.result ≡ slice_index (record_of r (c.args.key % r.config.members)).state c.args.key =
    rw (c.from.ensures, c.state.ensures.value) (ap (λ k. slice_index (record_of r k).state c.args.key) owner)
    in
    seen (λ k. (record_of r k).state) r.config.members c.args.key (slice_index c.state.result c.from.result) m (c.kept.ensures.states m below c.args.key) is

pub returns-clause-commands : goal.returns-clause-commands
returns-clause-commands c up =
    let r = c.args.group.now in
    let n : ℕ = r.config.members in
    let key : ℕ = c.args.key in
    let owner : c.at-owner.result ≡ key % n = search rules in
    let state : c.state.result ≡ state_after shard_next (key % n) n (received_notes r.trace (key % n)) = rw (← owner) (c.state.ensures.causes (rw owner up)) in
    rw c.from.ensures (ap (λ values. slice_index values key) state ∙ shard_value n key (received_notes r.trace (key % n)) (omega arith))

pub returns-clause-most : goal.returns-clause-most
returns-clause-most c =
    let r = c.args.group.now in
    let below : c.at-owner.result < r.config.members = search rules in
    let is : slice_index c.state.result c.from.result ≡ slice_index (record_of r c.at-owner.result).state c.args.key = rw (c.from.ensures, c.state.ensures.value) refl in
    let most = value-most (λ k. (record_of r k).state) (set.contains r.down) r.config.members c.args.key c.at-owner.result below
    (λ down. sym c.state.ensures.value ∙ c.state.ensures.down down) in
    omega (arith, is, most, c.none_made.ensures, none-first r.config.members)
