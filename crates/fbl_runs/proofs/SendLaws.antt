-- The sends that stand, in one member's log: in order they have the numbers from 1 on, and one in a life has each number.
use Rattle.fbl_runs.proofs.Common.{ℕ, zero, suc, Bool, true, false, cond, ◌≡◌, ◌<◌, ◌+◌, inl, inr, List, [], ◌∷◌, ◌++◌, length, take, drop, Option, Some, None, slice_get, refl, sym, ap, subst, ◌∙◌, arith, append-nil}
use Rattle.fbl_runs.proofs.Common.{cases_lt, At-front, At-push, take-append-drop, filter-append, false≢true, slice_get-take}
use Rattle.fbl_runs.proofs.Common.{Mark, Send, Entry, Event, mark_in, restart_in}
use Rattle.std.proofs.Common.{count_by}
use Rattle.std.proofs.lemmas.List.Sums.{length-filter}
use Rattle.std.specs.List.{cons_option, filter}
use Rattle.fbl_runs.specs.declared.entry.Restart as restart
use Rattle.fbl_runs.specs.KnownLives.{is_send_at, is_send_in, sends_behind}
use Rattle.fbl_runs.specs.Lives.{StandsBehind, StandsInLife, standing, stood_after}
use Rattle.fbl_runs.specs.Rules.{entries_at, is_send, sends_standing}
use Rattle.fbl_runs.proofs.LifeLaws.{IsIn, LivesRise, are_standing, get_from_take, standing-more, standing_below, stands_in_life, take-none}

-- ---- what a filter keeps

pub in_filter : (p : ℕ → Bool) (xs : List ℕ) (x : ℕ) → IsIn xs x → p x ≡ true → IsIn (filter p xs) x
in_filter p [] x is passes = (let some : None ≡ Some x = is.1 in absurd cc)
in_filter p (y ∷ xs) x is passes = by_place is.0 is.1 (λ i there. in_filter p xs x (i, there) passes) where
  by_place : (i : ℕ) → slice_get (y ∷ xs) i ≡ Some x → ((k : ℕ) → slice_get xs k ≡ Some x → IsIn (filter p xs) x) → IsIn (filter p (y ∷ xs)) x
  by_place zero here later =
      let same : y ≡ x = (let some : Some y ≡ Some x = here in cc) in
      let passed : p y ≡ true = ap p same ∙ passes in
      (0, (rw passed here))
  by_place (suc i) there later = (let rest = later i there in elim (p y) as (λ b. IsIn (cond b (y ∷ filter p xs) (filter p xs)) x) [ true ↦ (suc rest.0, rest.1) | false ↦ rest ])

pub from_filter : (p : ℕ → Bool) (xs : List ℕ) (i x : ℕ) → slice_get (filter p xs) i ≡ Some x → IsIn xs x × (p x ≡ true)
from_filter p [] i x is = (let some : None ≡ Some x = is in absurd cc)
from_filter p (y ∷ xs) i x is = by_test (p y) refl (λ k. from_filter p xs k x) i is where
  by_test : (b : Bool) → p y ≡ b → ((k : ℕ) → slice_get (filter p xs) k ≡ Some x → IsIn xs x × (p x ≡ true))
      → (k : ℕ) → slice_get (cond b (y ∷ filter p xs) (filter p xs)) k ≡ Some x → IsIn (y ∷ xs) x × (p x ≡ true)
  by_test false fails later k at = (let r = later k at in ((suc r.0.0, r.0.1), r.1))
  by_test true passes later zero at = (let same : y ≡ x = (let some : Some y ≡ Some x = at in cc) in ((0, at), ap p (sym same) ∙ passes))
  by_test true passes later (suc k) at = (let r = later k at in ((suc r.0.0, r.0.1), r.1))

-- what is kept of a front stands in front
pub filter_front : (p : ℕ → Bool) (n : ℕ) (xs : List ℕ) (i x : ℕ) → slice_get (filter p (take n xs)) i ≡ Some x → slice_get (filter p xs) i ≡ Some x
filter_front p n xs i x is =
    let whole : filter p xs ≡ filter p (take n xs) ++ filter p (drop n xs) = ap (filter p) (sym (take-append-drop n xs)) ∙ filter-append p (take n xs) (drop n xs) in
    (rw whole (At-front (filter p (take n xs)) (filter p (drop n xs)) i x is))

pub filter_agree : (p q : ℕ → Bool) (xs : List ℕ) → ((i x : ℕ) → slice_get xs i ≡ Some x → p x ≡ q x) → filter p xs ≡ filter q xs
filter_agree p q [] agree = refl
filter_agree p q (x ∷ xs) agree =
    ap (λ b. cond b (x ∷ filter p xs) (filter p xs)) (agree 0 x refl) ∙ ap (λ ys. cond (q x) (x ∷ ys) ys) (filter_agree p q xs (λ i. agree (suc i)))

-- ---- how many sends stand

sends_among : (log : List Entry) (numbers : List ℕ) → length (filter is_send (entries_at log numbers)) ≡ length (filter (is_send_at log) numbers)
sends_among log [] = refl
sends_among log (k ∷ numbers) = by_entry (slice_get log k) (sends_among log numbers) where
  by_entry : (o : Option Entry) → length (filter is_send (entries_at log numbers)) ≡ length (filter (is_send_at log) numbers)
      → length (filter is_send (cons_option o (entries_at log numbers))) ≡ length (cond (is_send_in o) (k ∷ filter (is_send_at log) numbers) (filter (is_send_at log) numbers))
  by_entry None rest = rest
  by_entry (Some e) rest = by_test (is_send e) where
    by_test : (b : Bool) → length (cond b (e ∷ filter is_send (entries_at log numbers)) (filter is_send (entries_at log numbers))) ≡ length (cond b (k ∷ filter (is_send_at log) numbers) (filter (is_send_at log) numbers))
    by_test true = ap suc rest
    by_test false = rest

pub sends_counted : (log : List Entry) (numbers : List ℕ) → count_by is_send (entries_at log numbers) ≡ length (filter (is_send_at log) numbers)
sends_counted log numbers = sym (length-filter is_send (entries_at log numbers)) ∙ sends_among log numbers

-- by the numbers in a longer log
pub send_in_front : (log : List Entry) (x k : ℕ) → k < x → is_send_at (take x log) k ≡ is_send_at log k
send_in_front log x k below = by_entry (slice_get log k) refl where
  by_entry : (o : Option Entry) → slice_get log k ≡ o → is_send_at (take x log) k ≡ is_send_at log k
  by_entry None none = ap is_send_in (get-none (slice_get (take x log) k) refl ∙ sym none) where
    get-none : (o : Option Entry) → slice_get (take x log) k ≡ o → slice_get (take x log) k ≡ None
    get-none None is = is
    get-none (Some e) is = (let some : None ≡ Some e = sym none ∙ get_from_take x log k e is in absurd cc)
  by_entry (Some e) here = ap is_send_in (slice_get-take log x k e below here ∙ sym here)

pub sends_standing_is : (log : List Entry) (x : ℕ) → sends_standing (take x log) ≡ length (sends_behind log x)
sends_standing_is log x = sends_counted (take x log) (standing (take x log)) ∙ ap length (filter_agree (is_send_at (take x log)) (is_send_at log) (standing (take x log)) (λ i k is. send_in_front log x k (standing_below log x i k is)))

-- ---- the numbers of sends

-- each send has its member's next number
abbrev pub SendsNumbered : List Entry → Type 0
SendsNumbered log = (k from ssn to : ℕ) → slice_get log k ≡ Some (Event (Send from ssn to)) → ssn ≡ sends_standing (take k log) + 1

-- the entry with the number is the send with the send number
abbrev pub IsNumbered : List Entry → ℕ → ℕ → Type 0
IsNumbered log k ssn = (from : ℕ) × (to : ℕ) × (slice_get log k ≡ Some (Event (Send from ssn to)))

send_is : (e : Entry) → is_send e ≡ true → (from : ℕ) × (ssn : ℕ) × (to : ℕ) × (e ≡ Event (Send from ssn to))
send_is (Event (Send from ssn to)) is = (from, ssn, to, refl)
send_is e is = absurd (false≢true is)

module _ (log : List Entry) (numbered : SendsNumbered log) where
  numbered_restart : (x n : ℕ) → ((i k : ℕ) → slice_get (sends_behind log x) i ≡ Some k → IsNumbered log k (suc i))
      → (i k : ℕ) → slice_get (filter (is_send_at log) (take n (standing (take x log)))) i ≡ Some k → IsNumbered log k (suc i)
  numbered_restart x n before i k is = before i k (filter_front (is_send_at log) n (standing (take x log)) i k is)

  numbered_event : (x : ℕ) (e : Entry) → slice_get log x ≡ Some e → ((i k : ℕ) → slice_get (sends_behind log x) i ≡ Some k → IsNumbered log k (suc i))
      → (i k : ℕ) → slice_get (filter (is_send_at log) (standing (take x log) ++ x ∷ [])) i ≡ Some k → IsNumbered log k (suc i)
  numbered_event x e here before i k is = by_test (is_send e) refl where
    whole : filter (is_send_at log) (standing (take x log) ++ x ∷ []) ≡ sends_behind log x ++ cond (is_send e) (x ∷ []) []
    whole = filter-append (is_send_at log) (standing (take x log)) (x ∷ []) ∙ ap (λ o. sends_behind log x ++ cond (is_send_in o) (x ∷ []) []) here

    by_test : (b : Bool) → is_send e ≡ b → IsNumbered log k (suc i)
    by_test false other =
        let same : filter (is_send_at log) (standing (take x log) ++ x ∷ []) ≡ sends_behind log x = whole ∙ ap (λ b. sends_behind log x ++ cond b (x ∷ []) []) other ∙ append-nil (sends_behind log x) in
        before i k (sym (ap (λ s. slice_get s i) same) ∙ is)
    by_test true send =
        let more : filter (is_send_at log) (standing (take x log) ++ x ∷ []) ≡ sends_behind log x ++ x ∷ [] = whole ∙ ap (λ b. sends_behind log x ++ cond b (x ∷ []) []) send in
        elim (At-push (sends_behind log x) x i k (sym (ap (λ s. slice_get s i) more) ∙ is)) [
          | inl old ↦ before i k old
          | inr new ↦
              let s = send_is e send in
              let at_x : slice_get log x ≡ Some (Event (Send s.0 s.1 s.2)) = here ∙ ap Some s.3 in
              let number : s.1 ≡ suc i = (let a = numbered x s.0 s.1 s.2 at_x in let b = sends_standing_is log x in let c = new.0 in omega (arith, a, b, c)) in
              subst (λ (n : ℕ). IsNumbered log n (suc i)) new.1 (s.0, s.2, (rw number at at_x))
        ]

  numbered_next : (x : ℕ) → ((i k : ℕ) → slice_get (sends_behind log x) i ≡ Some k → IsNumbered log k (suc i)) → (o : Option Entry) → slice_get log x ≡ o
      → (i k : ℕ) → slice_get (sends_behind log (suc x)) i ≡ Some k → IsNumbered log k (suc i)
  numbered_next x before None none i k is = before i k (sym (ap (λ t. slice_get (filter (is_send_at log) (standing t)) i) (take-none log x none)) ∙ is)
  numbered_next x before (Some e) here i k is = by_kind (restart_in e) (mark_in e) (sym (ap (λ s. slice_get (filter (is_send_at log) s) i) (standing-more log x e here)) ∙ is) where
    by_kind : (a : Option restart.Restart) (b : Option Mark) → slice_get (filter (is_send_at log) (stood_after a b x (standing (take x log)))) i ≡ Some k → IsNumbered log k (suc i)
    by_kind (Some r) b at = numbered_restart x (r.receipts + r.sends) before i k at
    by_kind None (Some m) at = numbered_event x e here before i k at
    by_kind None None at = before i k at

  -- of the sends that stand the first has the send number 1
  pub sends_are_numbered : (x i k : ℕ) → slice_get (sends_behind log x) i ≡ Some k → IsNumbered log k (suc i)
  sends_are_numbered zero i k is = (let some : None ≡ Some k = is in absurd cc)
  sends_are_numbered (suc x) i k is = numbered_next x (sends_are_numbered x) (slice_get log x) refl i k is

  -- where a send stands that has a send number
  pub send_stands_at : (x k from ssn to : ℕ) → slice_get log k ≡ Some (Event (Send from ssn to)) → StandsBehind log k x → (i : ℕ) × (ssn ≡ suc i) × (slice_get (sends_behind log x) i ≡ Some k)
  send_stands_at x k from ssn to here stands =
      let among = (are_standing log x k).1 ((Event (Send from ssn to), Send from ssn to, here, refl), stands) in
      let found = in_filter (is_send_at log) (standing (take x log)) k among (ap is_send_in here) in
      let is = sends_are_numbered x found.0 k found.1 in
      let same : ssn ≡ suc found.0 = (let some : Some (Event (Send from ssn to)) ≡ Some (Event (Send is.0 (suc found.0) is.1)) = sym here ∙ is.2 in cc) in
      (found.0, same, found.1)

  -- one send with a send number stands
  pub one_stands : (x a b from ssn to from' to' : ℕ) → slice_get log a ≡ Some (Event (Send from ssn to)) → slice_get log b ≡ Some (Event (Send from' ssn to')) → StandsBehind log a x → StandsBehind log b x → a ≡ b
  one_stands x a b from ssn to from' to' at_a at_b stands_a stands_b =
      let i = send_stands_at x a from ssn to at_a stands_a in
      let j = send_stands_at x b from' ssn to' at_b stands_b in
      let same : i.0 ≡ j.0 = (let p = i.1 in let q = j.1 in omega (arith, p, q)) in
      let some : Some a ≡ Some b = sym i.2 ∙ ap (slice_get (sends_behind log x)) same ∙ j.2 in
      cc

  module _ (rise : LivesRise log) where
    -- a send that stands in a life stands where the member is last in that life
    pub one_in_life : (life a b from ssn to from' to' : ℕ) → slice_get log a ≡ Some (Event (Send from ssn to)) → slice_get log b ≡ Some (Event (Send from' ssn to')) → StandsInLife log life a → StandsInLife log life b → a ≡ b
    one_in_life life a b from ssn to from' to' at_a at_b in_a in_b = elim (cases_lt in_a.0 in_b.0) [
      | inl before ↦ one_stands in_b.0 a b from ssn to from' to' at_a at_b (stands_in_life log rise a in_a.0 in_b.0 in_a.3 (omega (arith, before)) (in_a.2 ∙ sym in_b.2)) in_b.3
      | inr after ↦ one_stands in_a.0 a b from ssn to from' to' at_a at_b in_a.3 (stands_in_life log rise b in_b.0 in_a.0 in_b.3 after (in_b.2 ∙ sym in_a.2))
    ]
