-- Which entries stand behind which, in one member's log.
use Rattle.fbl_runs.proofs.Common.{ℕ, zero, suc, ◌≡◌, ◌≢◌, ◌<◌, ◌≤◌, ◌+◌, ◌⊎◌, ◌↔◌, inl, inr, List, [], ◌∷◌, ◌++◌, length, take, drop, Option, Some, None, slice_get, refl, sym, ap, subst, ◌∙◌, arith, add-one}
use Rattle.std.proofs.Common.{◌-◌}
use Rattle.fbl_runs.proofs.Common.{cases_eq, cases_lt, cases_order, length-take, slice_get_within, slice_get_read, At-front, At-push, At-seam, take-more, take-append-drop}
use Rattle.fbl_runs.proofs.Common.{Mark, Entry, Restart, mark_in, restart_in}
use Rattle.fbl_trace.proofs.Common.{Contains, get_or_from_slice_get}
use Rattle.fbl_runs.specs.declared.entry.Restart as restart
use Rattle.fbl_runs.specs.Lives.{IsUndoneBy, StandsBehind, life_after, life_from, life_in, standing, standing_from, stood_after}

-- ---- what a list has

abbrev pub IsIn : List ℕ → ℕ → Type 0
IsIn xs x = (i : ℕ) × (slice_get xs i ≡ Some x)

pub in_from_contains : (xs : List ℕ) (x : ℕ) → Contains xs x → IsIn xs x
in_from_contains xs x has = (has.0, slice_get_read xs (length xs) has.0 x refl has.1 (sym has.2))

pub contains_from_in : (xs : List ℕ) (x : ℕ) → IsIn xs x → Contains xs x
contains_from_in xs x is = (is.0, slice_get_within xs is.0 x is.1, get_or_from_slice_get xs is.0 x x is.1)

pub get_from_take : {X : Type 0} (n : ℕ) (xs : List X) (i : ℕ) (x : X) → slice_get (take n xs) i ≡ Some x → slice_get xs i ≡ Some x
get_from_take n xs i x is = (rw take-append-drop at (At-front (take n xs) (drop n xs) i x is))

-- an element in front of n is among the first n
pub within_take : {X : Type 0} (n : ℕ) (xs : List X) (i : ℕ) (x : X) → slice_get (take n xs) i ≡ Some x → i < n
within_take n xs i x is = (let w = slice_get_within (take n xs) i x is in omega (arith, w, length-take n xs))

-- ---- one entry more

pub restart_is : (e : Entry) (r : restart.Restart) → restart_in e ≡ Some r → e ≡ Restart r
restart_is (Restart s) r is = (let same : s ≡ r = cc in ap Restart same)
restart_is e r is = cc

standing_from-push : (entries : List Entry) (e : Entry) (stood : List ℕ) (number : ℕ)
    → standing_from stood number (entries ++ e ∷ []) ≡ stood_after (restart_in e) (mark_in e) (number + length entries) (standing_from stood number entries)
standing_from-push [] e stood number = (let same : number + 0 ≡ number = omega arith in (rw same refl))
standing_from-push (x ∷ entries) e stood number =
    let same : (number + 1) + length entries ≡ number + suc (length entries) = omega arith in
    let front = stood_after (restart_in x) (mark_in x) number stood in
    standing_from-push entries e front (number + 1) ∙ ap (λ k. stood_after (restart_in e) (mark_in e) k (standing_from front (number + 1) entries)) same

pub standing-push : (log : List Entry) (e : Entry) → standing (log ++ e ∷ []) ≡ stood_after (restart_in e) (mark_in e) (length log) (standing log)
standing-push log e = (let same : 0 + length log ≡ length log = omega arith in standing_from-push log e [] 0 ∙ ap (λ k. stood_after (restart_in e) (mark_in e) k (standing log)) same)

life_from-push : (entries : List Entry) (e : Entry) (life : ℕ) → life_from life (entries ++ e ∷ []) ≡ life_after (restart_in e) (life_from life entries)
life_from-push [] e life = refl
life_from-push (x ∷ entries) e life = life_from-push entries e (life_after (restart_in x) life)

pub life-push : (log : List Entry) (e : Entry) → life_in (log ++ e ∷ []) ≡ life_after (restart_in e) (life_in log)
life-push log e = life_from-push log e 0

pub length-front : {X : Type 0} (log : List X) (x : ℕ) → x ≤ length log → length (take x log) ≡ x
length-front log x within = omega (arith, length-take x log)

-- behind the entry with the number
pub standing-more : (log : List Entry) (x : ℕ) (e : Entry) → slice_get log x ≡ Some e → standing (take (suc x) log) ≡ stood_after (restart_in e) (mark_in e) x (standing (take x log))
standing-more log x e here =
    let within = slice_get_within log x e here in
    let size = length-front log x (omega (arith, within)) in
    ap standing (take-more log x e here) ∙ standing-push (take x log) e ∙ ap (λ k. stood_after (restart_in e) (mark_in e) k (standing (take x log))) size

pub life-more : (log : List Entry) (x : ℕ) (e : Entry) → slice_get log x ≡ Some e → life_in (take (suc x) log) ≡ life_after (restart_in e) (life_in (take x log))
life-more log x e here = ap life_in (take-more log x e here) ∙ life-push (take x log) e

-- where there is no entry with the number
pub take-none : {X : Type 0} (log : List X) (x : ℕ) → slice_get log x ≡ None → take (suc x) log ≡ take x log
take-none [] zero none = refl
take-none [] (suc x) none = refl
take-none (e ∷ log) zero none = cc
take-none (e ∷ log) (suc x) none = ap (λ t. e ∷ t) (take-none log x none)

-- ---- which entries stand

-- the entry with the number is an event
abbrev pub IsEventAt : List Entry → ℕ → Type 0
IsEventAt log k = (e : Entry) × (m : Mark) × (slice_get log k ≡ Some e) × (mark_in e ≡ Some m)

-- what stands stood earlier
pub StandsBehind-earlier : (log : List Entry) (k x y : ℕ) → StandsBehind log k x → k < y → y ≤ x → StandsBehind log k y
StandsBehind-earlier log k x y stands past before = (past, λ number r after below is. stands.1 number r after (omega (arith, below, before)) is)

-- it stands behind itself
pub StandsBehind-itself : (log : List Entry) (k : ℕ) → StandsBehind log k (k + 1)
StandsBehind-itself log k = (omega arith, λ number r after below is. absurd (omega (arith, after, below)))

-- it stands until the next restart
pub StandsBehind-later : (log : List Entry) (k x y : ℕ) → StandsBehind log k x → x ≤ y → ((number : ℕ) (r : restart.Restart) → x ≤ number → number < y → slice_get log number ≢ Some (Restart r)) → StandsBehind log k y
StandsBehind-later log k x y stands after none = (
  (let s = stands.0 in omega (arith, s, after)),
  λ number r past below is. elim (cases_lt number x) [ inl before ↦ stands.1 number r past before is | inr behind ↦ absurd (none number r behind below is) ],
)

-- and past one that keeps it
pub StandsBehind-kept : (log : List Entry) (k x : ℕ) → StandsBehind log k x → Contains (standing (take (x + 1) log)) k → StandsBehind log k (x + 1)
StandsBehind-kept log k x stands kept = (
  (let s = stands.0 in omega (arith, s)),
  λ number r past below is. elim (cases_eq number x) [
    | inl same ↦ subst (λ (n : ℕ). Contains (standing (take (n + 1) log)) k) (sym same) kept
    | inr ne ↦ stands.1 number r past (omega (arith, below, ne)) is
  ],
)

-- what is in a list and one element more
in_push : (xs : List ℕ) (y x : ℕ) → IsIn (xs ++ y ∷ []) x → IsIn xs x ⊎ (y ≡ x)
in_push xs y x is = elim (At-push xs y is.0 x is.1) [ inl old ↦ inl (is.0, old) | inr new ↦ inr new.1 ]

-- the events that stand behind the first x entries are those that are in the list
abbrev pub AreStanding : List Entry → ℕ → Type 0
AreStanding log x = (k : ℕ) → IsIn (standing (take x log)) k ↔ IsEventAt log k × StandsBehind log k x

-- an entry that is no restart
no_restart_at : (log : List Entry) (x : ℕ) (e : Entry) → slice_get log x ≡ Some e → restart_in e ≡ None → (number : ℕ) (r : restart.Restart) → x ≤ number → number < suc x → slice_get log number ≢ Some (Restart r)
no_restart_at log x e here none number r after below is =
    let same : number ≡ x = omega (arith, after, below) in
    let there : slice_get log x ≡ Some (Restart r) = subst (λ (n : ℕ). slice_get log n ≡ Some (Restart r)) same is in
    let entry : e ≡ Restart r = (let some : Some e ≡ Some (Restart r) = sym here ∙ there in cc) in
    let some : None ≡ Some r = sym none ∙ ap restart_in entry in cc

module _ (log : List Entry) (x : ℕ) (are : AreStanding log x) where
  -- behind a restart
  standing_restart : (e : Entry) (r : restart.Restart) → slice_get log x ≡ Some e → restart_in e ≡ Some r → AreStanding log (suc x)
  standing_restart e r here is k =
      let kept : standing (take (suc x) log) ≡ take (r.receipts + r.sends) (standing (take x log)) = standing-more log x e here ∙ (rw is refl) in (
        λ in'.
            let old = (are k).0 (in'.0, get_from_take (r.receipts + r.sends) (standing (take x log)) in'.0 k (sym (ap (λ s. slice_get s in'.0) kept) ∙ in'.1)) in
            let still : Contains (standing (take (x + 1) log)) k = (rw add-one (contains_from_in (standing (take (suc x) log)) k in')) in
            (old.0, (rw add-one at (StandsBehind-kept log k x old.1 still))),
        λ h.
            let event = h.0 in
            let at_x : slice_get log x ≡ Some (Restart r) = here ∙ ap Some (restart_is e r is) in
            let apart : k ≢ x = λ same. (
            let there : slice_get log x ≡ Some event.0 = subst (λ (n : ℕ). slice_get log n ≡ Some event.0) same event.2 in
            let entry : event.0 ≡ Restart r = (let some : Some event.0 ≡ Some (Restart r) = sym there ∙ at_x in cc) in
            let some : None ≡ Some event.1 = sym (ap mark_in entry) ∙ event.3 in cc) in
            let before : k < x = (let s = h.1.0 in omega (arith, s, apart)) in
            (rw add-one at (in_from_contains (standing (take (x + 1) log)) k (h.1.1 x r before (omega arith) at_x))),
      )

  -- behind a send or receipt
  standing_event : (e : Entry) (m : Mark) → slice_get log x ≡ Some e → restart_in e ≡ None → mark_in e ≡ Some m → AreStanding log (suc x)
  standing_event e m here none is k =
      let more : standing (take (suc x) log) ≡ standing (take x log) ++ x ∷ [] = standing-more log x e here ∙ (rw (none, is) refl) in (
        λ in'. elim (in_push (standing (take x log)) x k (in'.0, sym (ap (λ s. slice_get s in'.0) more) ∙ in'.1)) [
          | inl old ↦ (let h = (are k).0 old in (h.0, StandsBehind-later log k x (suc x) h.1 (omega arith) (no_restart_at log x e here none)))
          | inr same ↦ subst (λ (n : ℕ). IsEventAt log n × StandsBehind log n (suc x)) same ((e, m, here, is), (rw add-one at (StandsBehind-itself log x)))
        ],
        λ h. elim (cases_eq k x) [
          | inl same ↦ (length (standing (take x log)), (rw (more, same) (At-seam (standing (take x log)) x [])))
          | inr ne ↦
              let before : k < x = (let s = h.1.0 in omega (arith, s, ne)) in
              let old = (are k).1 (h.0, StandsBehind-earlier log k (suc x) x h.1 before (omega arith)) in
              (old.0, (rw more (At-front (standing (take x log)) (x ∷ []) old.0 k old.1)))
        ],
      )

  -- behind any other entry
  standing_other : (e : Entry) → slice_get log x ≡ Some e → restart_in e ≡ None → mark_in e ≡ None → AreStanding log (suc x)
  standing_other e here none nothing k =
      let same : standing (take (suc x) log) ≡ standing (take x log) = standing-more log x e here ∙ (rw (none, nothing) refl) in (
        λ in'. (let h = (are k).0 (in'.0, sym (ap (λ s. slice_get s in'.0) same) ∙ in'.1) in (h.0, StandsBehind-later log k x (suc x) h.1 (omega arith) (no_restart_at log x e here none))),
        λ h.
            let event = h.0 in
            let apart : k ≢ x = λ same. (
            let there : slice_get log x ≡ Some event.0 = subst (λ (n : ℕ). slice_get log n ≡ Some event.0) same event.2 in
            let entry : event.0 ≡ e = (let some : Some event.0 ≡ Some e = sym there ∙ here in cc) in
            let some : None ≡ Some event.1 = sym nothing ∙ sym (ap mark_in entry) ∙ event.3 in cc) in
            let before : k < x = (let s = h.1.0 in omega (arith, s, apart)) in
            let old = (are k).1 (h.0, StandsBehind-earlier log k (suc x) x h.1 before (omega arith)) in
            (old.0, (rw same old.1)),
      )

  -- past the last entry
  standing_past : slice_get log x ≡ None → AreStanding log (suc x)
  standing_past none k =
      let same : standing (take (suc x) log) ≡ standing (take x log) = ap standing (take-none log x none) in
      let no_restart : (number : ℕ) (r : restart.Restart) → x ≤ number → number < suc x → slice_get log number ≢ Some (Restart r) = λ number r after below is. (
      let equal : number ≡ x = omega (arith, after, below) in
      let there : slice_get log x ≡ Some (Restart r) = subst (λ (n : ℕ). slice_get log n ≡ Some (Restart r)) equal is in
      let some : None ≡ Some (Restart r) = sym none ∙ there in cc) in (
        λ in'. (let h = (are k).0 (in'.0, sym (ap (λ s. slice_get s in'.0) same) ∙ in'.1) in (h.0, StandsBehind-later log k x (suc x) h.1 (omega arith) no_restart)),
        λ h.
            let event = h.0 in
            let apart : k ≢ x = λ equal. (
            let there : slice_get log x ≡ Some event.0 = subst (λ (n : ℕ). slice_get log n ≡ Some event.0) equal event.2 in
            let some : None ≡ Some event.0 = sym none ∙ there in cc) in
            let before : k < x = (let s = h.1.0 in omega (arith, s, apart)) in
            let old = (are k).1 (h.0, StandsBehind-earlier log k (suc x) x h.1 before (omega arith)) in
            (old.0, (rw same old.1)),
      )

  standing_next : (o : Option Entry) → slice_get log x ≡ o → AreStanding log (suc x)
  standing_next None none = standing_past none
  standing_next (Some e) here = by_kind (restart_in e) (mark_in e) refl refl where
    by_kind : (a : Option restart.Restart) (b : Option Mark) → restart_in e ≡ a → mark_in e ≡ b → AreStanding log (suc x)
    by_kind (Some r) b is _ = standing_restart e r here is
    by_kind None (Some m) none is = standing_event e m here none is
    by_kind None None none nothing = standing_other e here none nothing

pub are_standing : (log : List Entry) (x : ℕ) → AreStanding log x
are_standing log zero = λ k. (λ in'. (let some : None ≡ Some k = in'.1 in cc), λ h. absurd (let s = h.1.0 in omega (arith, s)))
are_standing log (suc x) = standing_next log x (are_standing log x) (slice_get log x) refl

-- as `Contains` has it
pub standing_stands : (log : List Entry) (x k : ℕ) → Contains (standing (take x log)) k → IsEventAt log k × StandsBehind log k x
standing_stands log x k has = (are_standing log x k).0 (in_from_contains (standing (take x log)) k has)

-- ---- the numbers rise

abbrev pub Rises : List ℕ → Type 0
Rises xs = (i j a b : ℕ) → i < j → slice_get xs i ≡ Some a → slice_get xs j ≡ Some b → a < b

pub Rises-take : (n : ℕ) (xs : List ℕ) → Rises xs → Rises (take n xs)
Rises-take n xs rises i j a b before at_i at_j = rises i j a b before (get_from_take n xs i a at_i) (get_from_take n xs j b at_j)

pub Rises-push : (xs : List ℕ) (y : ℕ) → Rises xs → ((i a : ℕ) → slice_get xs i ≡ Some a → a < y) → Rises (xs ++ y ∷ [])
Rises-push xs y rises below i j a b before at_i at_j = elim (At-push xs y i a at_i) [
  | inl old_i ↦ elim (At-push xs y j b at_j) [ inl old_j ↦ rises i j a b before old_i old_j | inr new ↦ subst (λ (n : ℕ). a < n) new.1 (below i a old_i) ]
  | inr last ↦ elim (At-push xs y j b at_j) [
    | inl old_j ↦ absurd (let w = slice_get_within xs j b old_j in omega (arith, w, last.0, before))
    | inr new ↦ absurd (omega (arith, last.0, new.0, before))
  ]
]

pub standing_below : (log : List Entry) (x i a : ℕ) → slice_get (standing (take x log)) i ≡ Some a → a < x
standing_below log x i a is = ((are_standing log x a).0 (i, is)).1.0

standing_rises_next : (log : List Entry) (x : ℕ) → Rises (standing (take x log)) → (o : Option Entry) → slice_get log x ≡ o → Rises (standing (take (suc x) log))
standing_rises_next log x rises None none = subst Rises (sym (ap standing (take-none log x none))) rises
standing_rises_next log x rises (Some e) here = subst Rises (sym (standing-more log x e here)) (by_kind (restart_in e) (mark_in e)) where
  by_kind : (a : Option restart.Restart) (b : Option Mark) → Rises (stood_after a b x (standing (take x log)))
  by_kind (Some r) b = Rises-take (r.receipts + r.sends) (standing (take x log)) rises
  by_kind None (Some m) = Rises-push (standing (take x log)) x rises (standing_below log x)
  by_kind None None = rises

pub standing_rises : (log : List Entry) (x : ℕ) → Rises (standing (take x log))
standing_rises log zero = λ i j a b before at_i at_j. (let some : None ≡ Some a = at_i in cc)
standing_rises log (suc x) = standing_rises_next log x (standing_rises log x) (slice_get log x) refl

-- ---- entries that stand together

-- of two entries the earlier one stood when the later one came, if it stands behind that or behind more
pub stood_when_came : (log : List Entry) (i j x : ℕ) → i < j → j < x → StandsBehind log i x → StandsBehind log i (j + 1)
stood_when_came log i j x before within stands = StandsBehind-earlier log i x (j + 1) stands (omega (arith, before)) (omega (arith, within))

-- so of two that a restart keeps
pub kept_together : (log : List Entry) (i j number : ℕ) → i < j → Contains (standing (take (number + 1) log)) i → Contains (standing (take (number + 1) log)) j → StandsBehind log i (j + 1)
kept_together log i j number before at_i at_j =
    let w : j < number + 1 = (standing_stands log (number + 1) j at_j).1.0 in
    stood_when_came log i j (number + 1) before w (standing_stands log (number + 1) i at_i).1

-- it stands behind one entry more, if that is no restart or keeps it
pub StandsBehind-next : (log : List Entry) (k x : ℕ) → StandsBehind log k x → ((r : restart.Restart) → slice_get log x ≡ Some (Restart r) → Contains (standing (take (x + 1) log)) k) → StandsBehind log k (x + 1)
StandsBehind-next log k x stands kept = (
  (let s = stands.0 in omega (arith, s)),
  λ number r past below is. elim (cases_eq number x) [
    | inl same ↦ subst (λ (n : ℕ). Contains (standing (take (n + 1) log)) k) (sym same) (kept r (subst (λ (n : ℕ). slice_get log n ≡ Some (Restart r)) same is))
    | inr ne ↦ stands.1 number r past (omega (arith, below, ne)) is
  ],
)

-- an entry is undone once
undone_before : (log : List Entry) (k a b : ℕ) → IsUndoneBy log k a → IsUndoneBy log k b → a < b → ⊥
undone_before log k a b at_a at_b before = at_a.undone (at_b.stood.1 a at_a.restart.0 at_a.stood.0 before at_a.restart.1)

pub undone_once : (log : List Entry) (k a b : ℕ) → IsUndoneBy log k a → IsUndoneBy log k b → a ≡ b
undone_once log k a b at_a at_b = elim (cases_order a b) [
  | inl same ↦ same
  | inr (inl below) ↦ absurd (undone_before log k a b at_a at_b below)
  | inr (inr above) ↦ absurd (undone_before log k b a at_b at_a above)
]

-- ---- lives rise

-- each restart begins a later life
abbrev pub LivesRise : List Entry → Type 0
LivesRise log = (k : ℕ) (r : restart.Restart) → slice_get log k ≡ Some (Restart r) → life_in (take k log) < r.life

module _ (log : List Entry) (rise : LivesRise log) where
  life_next : (x : ℕ) → life_in (take x log) ≤ life_in (take (suc x) log)
  life_next x = by_entry (slice_get log x) refl where
    by_entry : (o : Option Entry) → slice_get log x ≡ o → life_in (take x log) ≤ life_in (take (suc x) log)
    by_entry None none = (let same = ap life_in (take-none log x none) in omega (arith, same))
    by_entry (Some e) here = by_kind (restart_in e) refl where
      by_kind : (a : Option restart.Restart) → restart_in e ≡ a → life_in (take x log) ≤ life_in (take (suc x) log)
      by_kind None none = (let same : life_in (take (suc x) log) ≡ life_in (take x log) = life-more log x e here ∙ (rw none refl) in omega (arith, same))
      by_kind (Some r) is =
          let now : life_in (take (suc x) log) ≡ r.life = life-more log x e here ∙ (rw is refl) in
          let more = rise x r (here ∙ ap Some (restart_is e r is)) in
          omega (arith, now, more)

  life_on : (x d : ℕ) → life_in (take x log) ≤ life_in (take (x + d) log)
  life_on x zero = (let same : x + 0 ≡ x = omega arith in (rw same (omega arith)))
  life_on x (suc d) =
      let same : x + suc d ≡ suc (x + d) = omega arith in
      let rest = life_on x d in
      let last = life_next (x + d) in
      let all : life_in (take x log) ≤ life_in (take (suc (x + d)) log) = omega (arith, rest, last) in
      (rw same all)

  pub life_le : (x y : ℕ) → x ≤ y → life_in (take x log) ≤ life_in (take y log)
  life_le x y before = (let same : x + (y - x) ≡ y = omega (arith, before) in (rw same at (life_on x (y - x))))

  -- strictly so past a restart
  pub life_lt : (x k y : ℕ) (r : restart.Restart) → slice_get log k ≡ Some (Restart r) → x ≤ k → k < y → life_in (take x log) < life_in (take y log)
  life_lt x k y r here before after =
      let front = life_le x k before in
      let more = rise k r here in
      let now : life_in (take (suc k) log) ≡ r.life = life-more log k (Restart r) here in
      let back = life_le (suc k) y (omega (arith, after)) in
      omega (arith, front, more, now, back)

  -- so no restart stands within a life
  pub none_within_life : (x y : ℕ) → life_in (take x log) ≡ life_in (take y log) → (k : ℕ) (r : restart.Restart) → x ≤ k → k < y → slice_get log k ≢ Some (Restart r)
  none_within_life x y same k r before after here = (let more = life_lt x k y r here before after in omega (arith, more, same))

  -- and what stands at some time in a life stands from then on to its end
  pub stands_in_life : (k x y : ℕ) → StandsBehind log k x → x ≤ y → life_in (take x log) ≡ life_in (take y log) → StandsBehind log k y
  stands_in_life k x y stands before same = StandsBehind-later log k x y stands before (none_within_life x y same)

  -- the life behind a restart is its own
  pub life_begun : (k : ℕ) (r : restart.Restart) → slice_get log k ≡ Some (Restart r) → life_in (take (suc k) log) ≡ r.life
  life_begun k r here = life-more log k (Restart r) here

  -- so a life is begun once
  pub begun_once : (a b : ℕ) (r s : restart.Restart) → slice_get log a ≡ Some (Restart r) → slice_get log b ≡ Some (Restart s) → r.life ≡ s.life → a ≡ b
  begun_once a b r s at_a at_b same = elim (cases_order a b) [
    | inl equal ↦ equal
    | inr (inl below) ↦ absurd (let more = life_lt (suc a) b (suc b) s at_b (omega (arith, below)) (omega arith) in let x = life_begun a r at_a in let y = life_begun b s at_b in omega (arith, more, x, y, same))
    | inr (inr above) ↦ absurd (let more = life_lt (suc b) a (suc a) r at_a (omega (arith, above)) (omega arith) in let x = life_begun a r at_a in let y = life_begun b s at_b in omega (arith, more, x, y, same))
  ]
