-- Entries of which each waits for the next one.
use Rattle.fbl_order.proofs.Common.{ℕ, List, [], ◌∷◌, ◌++◌, ◌+◌, ◌-◌, ◌≡◌, ◌≢◌, ◌<◌, ◌≤◌, ◌⊎◌, ◌∙◌, Some, drop, refl, sym, ap, inl, inr, arith, rules}
use Rattle.fbl_order.proofs.Common.{length, length-append, slice_get, slice_get-get_or, slice_get_within, get_or, subst}
use Rattle.fbl_order.proofs.Common.{Entry, placed_of, At-below, At-front, At-push, AreLinked, IsNextAt, IsStuck, Merge, StandsIn, StartsAt, Stuck}
use Rattle.fbl_trace.proofs.Gets.{At-seam, map-At}
use Rattle.std.proofs.Common.{eqb, map}
use Rattle.std.proofs.lemmas.Bool.{eqb-true}
use Rattle.std.proofs.lemmas.Bool.Decides.{Decides-eqb}
use Rattle.std.proofs.lemmas.List.{length-map, map-append}
use Rattle.std.proofs.lemmas.List.Folds.{Any-from_list_any}
use Rattle.std.proofs.lemmas.List.Quantifiers.{all_pairs_push}
use Rattle.std.proofs.lemmas.Map.Made.{IsDistinct-from_AllPairs}
use Rattle.std.proofs.lemmas.Map.Steps.{length-le_from_distinct_below}
use Rattle.fbl_order.specs.Faults.{ClosesAt, IsEndOfChain}
use Rattle.fbl_order.specs.declared.fault.Obstacle.{Obstacle}
use Rattle.fbl_order.specs.declared.fault.Obstacle.TheVariants.{Waits}

-- the chain so far, and the place for which its last entry waits, where none of the chain stands
pub record IsWalk (n : ℕ) (entries : List Entry) (merge : Merge) (first : ℕ) (chain : List Stuck) (place : ℕ) : Type 0 where
  pub linked : AreLinked n entries (placed_of entries merge) chain
  pub begins : ((chain ≡ []) × (place ≡ first)) ⊎ StartsAt chain first
  pub last : (s : Stuck) → slice_get chain (length chain - 1) ≡ Some s → s.obstacle ≡ Waits place
  pub next : IsNextAt entries merge place
  pub apart : ¬ (StandsIn chain place)

-- before the first entry
pub begun_walk : (n : ℕ) (entries : List Entry) (merge : Merge) (first : ℕ) → IsNextAt entries merge first
    → IsWalk n entries merge first [] first
begun_walk n entries merge first next = record {
  linked = record { each = λ k s at. cc; follows = λ k s t at there. cc; apart = search rules };
  begins = inl (refl, refl);
  last = λ s at. cc;
  next = next;
  apart = λ stands. (let none = stands.2 in cc);
}

-- there are no more of them than entries
pub few_linked : (n : ℕ) (entries run : List Entry) (chain : List Stuck) → AreLinked n entries run chain → length chain ≤ length entries
few_linked n entries run chain linked = omega (arith, few, length-map chain (λ (s : Stuck). s.place)) where
  few : length (map (λ (s : Stuck). s.place) chain) ≤ length entries
  few = length-le_from_distinct_below (map (λ (s : Stuck). s.place) chain) (length entries) (IsDistinct-from_AllPairs Decides-eqb _ linked.apart) (λ q has.
      let is = Any-from_list_any (eqb q) _ has in
      let s = map-At (λ (s : Stuck). s.place) chain is.0 is.1 (subst (λ x. slice_get (map (λ (s : Stuck). s.place) chain) is.0 ≡ Some x) is.3
      (slice_get-get_or _ is.0 is.1 is.2)) in
      omega (arith, eqb-true q is.1 is.4, s.2, slice_get_within entries _ _ (linked.each is.0 s.0 s.1).here))

-- what closes a chain stands in it
pub closes-within : (chain : List Stuck) (obstacle : Obstacle) (number : ℕ) → ClosesAt chain obstacle number → number ≤ length chain
closes-within chain (Waits place) number closes = omega (arith, slice_get_within chain number closes.0 closes.1)
closes-within chain x number closes = omega (arith, closes)

-- an entry behind the chain
module _ (n : ℕ) (entries : List Entry) (merge : Merge) (first place : ℕ) (chain : List Stuck) (s : Stuck)
    (walk : IsWalk n entries merge first chain place) (here : s.place ≡ place) (stuck : IsStuck n entries (placed_of entries merge) s) where
  follows : (k : ℕ) (a b : Stuck) → slice_get (chain ++ s ∷ []) k ≡ Some a → slice_get (chain ++ s ∷ []) (k + 1) ≡ Some b → a.obstacle ≡ Waits b.place
  follows k a b a_at b_at = elim (At-push chain s k a a_at) [
    | inl old ↦ elim (At-push chain s (k + 1) b b_at) [
      | inl old_b ↦ walk.linked.follows k a b old old_b
      | inr new ↦
          let is : k ≡ length chain - 1 = omega (arith, new.0) in
          walk.last a (rw is at old) ∙ ap Waits (sym here ∙ ap (λ (s : Stuck). s.place) new.1)
    ]
    | inr new ↦ absurd (omega (arith, new.0, At-below (chain ++ s ∷ []) (k + 1) b b_at, length-append chain (s ∷ [])))
  ]

  apart : (k d : ℕ) → k < length (map (λ (s : Stuck). s.place) chain) → get_or (map (λ (s : Stuck). s.place) chain) k d ≢ s.place
  apart k d below is =
      let t = map-At (λ (s : Stuck). s.place) chain k _ (slice_get-get_or (map (λ (s : Stuck). s.place) chain) k d below) in
      walk.apart (k, t.0, t.1, t.2 ∙ is ∙ here)

  pub linked : AreLinked n entries (placed_of entries merge) (chain ++ s ∷ [])
  linked = record {
    each = λ k a at. elim (At-push chain s k a at) [ inl old ↦ walk.linked.each k a old | inr new ↦ rw (← new.1) stuck ];
    follows = follows;
    apart = rw (map-append (λ (s : Stuck). s.place) chain (s ∷ [])) (all_pairs_push (λ a b. a ≢ b) _ s.place walk.linked.apart apart);
  }

  pub starts : StartsAt (chain ++ s ∷ []) first
  starts = elim walk.begins [
    | inl none ↦ (s, (rw none.0 refl), here ∙ none.1)
    | inr old ↦ (old.0, At-front chain (s ∷ []) 0 old.0 old.1, old.2)
  ]

  -- it is the last
  is_last : (a : Stuck) → slice_get (chain ++ s ∷ []) (length (chain ++ s ∷ []) - 1) ≡ Some a → s ≡ a
  is_last a at = elim (At-push chain s _ a at) [
    | inl old ↦ absurd (omega (arith, At-below chain _ a old, length-append chain (s ∷ [])))
    | inr new ↦ new.1
  ]

  -- it waits for another
  pub walked : (next : ℕ) → s.obstacle ≡ Waits next → IsNextAt entries merge next → ¬ (StandsIn (chain ++ s ∷ []) next)
      → IsWalk n entries merge first (chain ++ s ∷ []) next
  walked next waits is_next apart = record {
    linked = linked;
    begins = inr starts;
    last = λ a at. ap (λ (s : Stuck). s.obstacle) (sym (is_last a at)) ∙ waits;
    next = is_next;
    apart = apart;
  }

  -- it closes the chain
  pub closed : (number : ℕ) → ClosesAt (chain ++ s ∷ []) s.obstacle number
      → IsEndOfChain n entries (placed_of entries merge) first (drop number (chain ++ s ∷ []))
  closed number closes = record {
    chain = chain ++ s ∷ [];
    linked = linked;
    starts = starts;
    last = s;
    is_last = (let is : length (chain ++ s ∷ []) - 1 ≡ length chain = omega (arith, length-append chain (s ∷ [])) in rw is (At-seam chain s []));
    number = number;
    closes = closes;
    end = refl;
  }
