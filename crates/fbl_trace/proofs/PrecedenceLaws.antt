-- Laws of precedence between events, and that precedence between places says the same of a trace that obeys the rules.
use Rattle.fbl_trace.proofs.Common.{ℕ, Bool, ◌≡◌, ◌⊎◌, ◌↔◌, inl, inr, List, [], ◌∷◌, ◌++◌, length, Some, refl, arith, filter, Mark, member_of, Has, Precedes, itself, step, Depends}
use Rattle.fbl_trace.proofs.Common.{Send, Receipt, send_of, Earlier, ◌<◌, take, At, WellFormed, DependsOnPlace, PlacePrecedes, place_step, same_place, subst, nat_tests}
use Rattle.fbl_trace.proofs.Gets.{At-front, At-append, At-seam, At-below, At-push, At-filter, Apart-filter, slice_get-take}
use Rattle.fbl_trace.proofs.RulesLaws.{MayFollow-new, WellFormed-take, sent-number}

pub Earlier-front : (t s : List Mark) (a b : Mark) → Earlier t a b → Earlier (t ++ s) a b
Earlier-front t s a b h = (h.0, h.1, h.2, At-front t s h.0 a h.3, At-front t s h.1 b h.4)

pub Precedes-front : (t s : List Mark) {a b : Mark} → Precedes t a b → Precedes (t ++ s) a b
Precedes-front t s {a} (itself h) = itself (h.0, At-front t s h.0 a h.1)
Precedes-front t s (step {b} {c} p l) = step (Precedes-front t s p) (Earlier-front t s b c l.0, l.1)

-- the trace has the last event of a path, and the first
pub Has-last : {t : List Mark} {a b : Mark} → Precedes t a b → Has t b
Has-last path = grind (arith, nat_tests)

pub Has-first : {t : List Mark} {a b : Mark} → Precedes t a b → Has t a
Has-first (itself h) = h
Has-first (step p l) = Has-first p

pub Has-append : (t added : List Mark) (e : Mark) → Has (t ++ added) e → Has t e ⊎ Has added e
Has-append t added e h = elim (At-append t added h.0 e h.1) [ inl here ↦ inl (h.0, here) | inr there ↦ inr (there.0, there.2) ]

-- where events are appended that the trace did not have
module _ (t added : List Mark) (apart : (e : Mark) → Has added e → ¬ (Has t e)) where
  Earlier-within : (a b : Mark) → Has t b → Earlier (t ++ added) a b → Earlier t a b
  Earlier-within a b old h =
      elim (At-append t added h.1 b h.4) [
        | inl y ↦ grind (arith, nat_tests, At-append, At-below)
        | inr y ↦ absurd (apart b (y.0, y.2) old)
      ]

  -- nothing new precedes an old event
  pub Precedes-within : {a b : Mark} → Has t b → Precedes (t ++ added) a b → Precedes t a b
  Precedes-within old (itself h) = itself old
  Precedes-within old (step {b} {c} p l) = (let e = Earlier-within b c old l.0 in step (Precedes-within (e.0, e.3) p) (e, l.1))

  -- what precedes one of them is one of them, or precedes an old event that leads to one of them
  module _ (LeadsIn : Mark → Type 0) (leads : (c e : Mark) → Has added e → (member_of c ≡ member_of e) ⊎ (send_of e ≡ Some c) → LeadsIn c) where
    pub Precedes-entered : {a b : Mark} → Has added b → Precedes (t ++ added) a b → Has added a ⊎ ((c : Mark) × Precedes t a c × LeadsIn c)
    Precedes-entered new (itself h) = inl new
    Precedes-entered new (step {b} {c} p l) = elim (Has-append t added b (l.0.0, l.0.3)) [
      | inr late ↦ Precedes-entered late p
      | inl early ↦ inr (b, Precedes-within early p, leads b c new l.1)
    ]

-- one event that is appended
only : (e x : Mark) → Has (e ∷ []) x → x ≡ e
only e x among = grind (arith, nat_tests)

apart_from : (t : List Mark) (e : Mark) → ¬ (Has t e) → (x : Mark) → Has (e ∷ []) x → ¬ (Has t x)
apart_from t e new x among there = new (subst (Has t) (only e x among) there)

-- and the other way round
pub new-Precedes : (t : List Mark) (e : Mark) {a b : Mark} → Precedes t a b → (member_of b ≡ member_of e) ⊎ (send_of e ≡ Some b) → Precedes (t ++ e ∷ []) a e
new-Precedes t e {a} {b} p leads = (let h = Has-last p in step (Precedes-front t (e ∷ []) p) ((h.0, length t, At-below t h.0 b h.1, At-front t (e ∷ []) h.0 b h.1, At-seam t e []), leads))

-- what an appended receipt depends on: what its member depended on, and what precedes its send
pub precedes_receipt : (t : List Mark) (to rsn from ssn : ℕ) (a : Mark) → ¬ (Has t (Receipt to rsn from ssn))
    → Precedes (t ++ Receipt to rsn from ssn ∷ []) a (Receipt to rsn from ssn) ↔ (a ≡ Receipt to rsn from ssn) ⊎ Depends t to a ⊎ Precedes t a (Send from ssn to)
precedes_receipt t to rsn from ssn a new = (let receipt : Mark = Receipt to rsn from ssn in (
  λ p. elim (Precedes-entered t (receipt ∷ []) (apart_from t receipt new) (λ c. (member_of c ≡ to) ⊎ (send_of receipt ≡ Some c)) (λ c e among leads. rw (only receipt e among) at leads) (0, refl) p) [
    | inl x ↦ inl (only receipt a x)
    | inr x ↦ inr (elim x.2 [ inl y ↦ inl (x.0, x.1, y) | inr y ↦ inr (let is : Send from ssn to ≡ x.0 = cc in rw is x.1) ])
  ],
  elim [
    | inl is ↦ rw is (itself (length t, At-seam t _ []))
    | inr h ↦ elim h [ inl d ↦ new-Precedes t _ d.1 (inl d.2) | inr p ↦ new-Precedes t _ p (inr refl) ]
  ],
))

-- who depends on an event after one more: as before, and the member of the new one
pub depends_push : (t : List Mark) (e : Mark) (q : ℕ) (a : Mark) → ¬ (Has t e) → Depends (t ++ e ∷ []) q a ↔ Depends t q a ⊎ ((member_of e ≡ q) × Precedes (t ++ e ∷ []) a e)
depends_push t e q a new = grind (arith, Has-last, At-push, Precedes-within, apart_from, Precedes-front)

pub Has-filter : (p : Mark → Bool) (t : List Mark) (a : Mark) → Has (filter p t) a → Has t a
Has-filter p t a h = At-filter p t h.0 a h.1

-- what is left after some events are dropped precedes only what it preceded
pub Precedes-filter : (p : Mark → Bool) (t : List Mark) {a b : Mark} → Precedes (filter p t) a b → Precedes t a b
Precedes-filter p t {a} (itself h) = itself (Has-filter p t a h)
Precedes-filter p t (step {b} {c} path l) = step (Precedes-filter p t path) (Apart-filter p t b c l.0, l.1)

-- what no place has after another has it has one place
pub one_of : (P : ℕ → Type 0) → ((i j : ℕ) → P i → P j → ¬ (i < j)) → (i j : ℕ) → P i → P j → i ≡ j
one_of P apart i j at_i at_j = grind arith

-- no event stands twice
pub one_place : (n : ℕ) (t : List Mark) → WellFormed n t → (e : Mark) (i j : ℕ) → At t i e → At t j e → i ≡ j
one_place n t obeys e = one_of (λ i. At t i e) (λ i j at_i at_j below. MayFollow-new n (take j t) e (WellFormed-take n j t obeys) (obeys j e at_j) (i, slice_get-take t j i e below at_i))

-- no member has two sends of one number
pub one_send : (n : ℕ) (t : List Mark) → WellFormed n t → (q s a b i j : ℕ) → At t i (Send q s a) → At t j (Send q s b) → i ≡ j
one_send n t obeys q s a b i j at_i at_j = one_of (λ k. (to : ℕ) × At t k (Send q s to)) later i j (a, at_i) (b, at_j) where
  later : (x y : ℕ) → (to : ℕ) × At t x (Send q s to) → (to : ℕ) × At t y (Send q s to) → ¬ (x < y)
  later x y sent_x sent_y below =
      let number = (obeys y (Send q s sent_y.0) sent_y.1).3 in
      let most = sent-number n (take y t) (WellFormed-take n y t obeys) q s sent_x.0 (x, slice_get-take t y x (Send q s sent_x.0) below sent_x.1) in
      omega (arith, number, most)

pub events-from_places : (t : List Mark) (i j : ℕ) (a b : Mark) → At t i a → At t j b → PlacePrecedes t i j → Precedes t a b
events-from_places t i j a b at_a at_b (same_place h) = (let e : a ≡ b = cc in rw (← e) (itself (i, at_a)))
events-from_places t i j a b at_a at_b (place_step {j = k} {k = m} p l) =
    let last : l.1 ≡ b = cc in
    let first = events-from_places t i k a l.0 at_a l.3 p in
    (rw last at (step first ((k, m, l.2, l.3, l.4), l.5)))

pub places-from_events : (n : ℕ) (t : List Mark) → WellFormed n t → (i : ℕ) (a : Mark) → At t i a → (j : ℕ) (b : Mark) → At t j b → Precedes t a b → PlacePrecedes t i j
places-from_events n t obeys i a at_a j b at_b (itself h) = (let e = one_place n t obeys a i j at_a at_b in rw (← e) (same_place at_a))
places-from_events n t obeys i a at_a j b at_b (step {b = c} {c = d} p l) =
    let first = places-from_events n t obeys i a at_a l.0.0 c l.0.3 p in
    let e = one_place n t obeys b l.0.1 j l.0.4 at_b in
    (rw e at (place_step first (c, b, l.0.2, l.0.3, l.0.4, l.1)))

pub depends-from_places : (t : List Mark) (member i : ℕ) (a : Mark) → At t i a → DependsOnPlace t member i → Depends t member a
depends-from_places t member i a at_a d = (d.1, events-from_places t i d.0 a d.1 at_a d.3 d.2, d.4)

pub places-from_depends : (n : ℕ) (t : List Mark) → WellFormed n t → (member i : ℕ) (a : Mark) → At t i a → Depends t member a → DependsOnPlace t member i
places-from_depends n t obeys member i a at_a d = (let stands = Has-last d.1 in (stands.0, d.0, places-from_events n t obeys i a at_a stands.0 d.0 stands.1 d.1, stands.1, d.2))
