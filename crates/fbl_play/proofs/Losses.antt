-- Which receipts are lost, and which of them a strike loses.
use Rattle.fbl_trace.specs.declared.trace.Note.{Note}
use Rattle.fbl_play.proofs.Common.{◌≡◌, ℕ, ◌∙◌, ◌<◌, ◌≤◌, ◌+◌, Bool, true, false, not, cond, suc, List, [], ◌∷◌, ◌++◌, append-nil, map, filter, take, drop, length, get_or, get_or_default}
use Rattle.fbl_play.proofs.Common.{take_more, drop_more, length-drop, filter-append, filter_passes, refl, sym, ap, subst, inl, inr, arith, Determinant, Event, mark_of, receipt_of}
use Rattle.fbl_play.proofs.Common.{receipts, same_determinant, Decides-same_determinant, Has, Members, Next, MemberRecord, GroupRecord, marks, knowledge, is_recorded, IsRecorded, IsUp, Names}
use Rattle.fbl_play.proofs.Common.{IsSound, IsStrike, lost_receipts, recorded_test, was_up, up_if_none, no_orphan, itself, true_from_ne_false, false≢true}
use Rattle.std.specs.FinSet as sets
use Rattle.fbl_trace.specs.declared.trace.Event.TheVariants as event

-- of what the one test takes, the other takes what it takes of all, where it takes nothing else
filter-within : {A : Type 0} (p q : A → Bool) → ((x : A) → p x ≡ true → q x ≡ true) → (xs : List A) → filter p (filter q xs) ≡ filter p xs
filter-within p q within [] = refl
filter-within p q within (x ∷ xs) = grind (arith, filter-within p q within xs, within x)

module _ {next : Next ℕ Note} {old new : GroupRecord ℕ Note} {struck : Members} (strike : IsStrike next old new struck) (before : IsSound next old) (after : IsSound next new) where
  -- what is recorded after a strike was recorded before it
  was_recorded : (d : Determinant) → IsRecorded (knowledge new) d → IsRecorded (knowledge old) d
  was_recorded d (inl (m, holds)) =
      inl (m, (was_up old.down struck m (rw strike.down at holds.0), subst (λ (r : MemberRecord ℕ Note). Names r.table d) (strike.survivors m holds.0) holds.1))
  was_recorded d (inr (m, names)) = inr (m, (rw (strike.checkpoints, strike.outside) at names))

  still_lost : (d : Determinant) → not (is_recorded old d) ≡ true → not (is_recorded new d) ≡ true
  still_lost d lost =
      let was : is_recorded new d ≡ true → is_recorded old d ≡ true = λ is. (recorded_test next old d before).1 (was_recorded d ((recorded_test next new d after).0 is)) in
      grind (arith, was)

  -- so of the receipts that are lost after it those were lost before it that were not recorded
  pub lost_before : lost_receipts old ≡ filter (λ d. not (is_recorded old d)) (lost_receipts new)
  lost_before =
      ap (λ trace. filter (λ d. not (is_recorded old d)) (receipts (map mark_of trace))) (sym strike.trace)
      ∙ sym (filter-within (λ d. not (is_recorded old d)) (λ d. not (is_recorded new d)) still_lost (receipts (marks new)))

-- in a sound group each receipt of a member that is up is recorded
up_recorded : (next : Next ℕ Note) (r : GroupRecord ℕ Note) (d : Determinant) → IsSound next r → Has (marks r) (receipt_of d) → IsUp (knowledge r) d.to → is_recorded r d ≡ true
up_recorded next r d sound there up =
    true_from_ne_false (is_recorded r d)
    (λ is. no_orphan r.config.f (knowledge r) sound.causes.closed d.to (up, (d, (receipt_of d, itself there, refl), λ recorded. false≢true (sym is ∙ (recorded_test next r d sound).1 recorded))))

none_lost : (r : GroupRecord ℕ Note) (events : List (Event Note)) → ((d : Determinant) → Has (map mark_of events) (receipt_of d) → is_recorded r d ≡ true)
    → filter (λ d. not (is_recorded r d)) (receipts (map mark_of events)) ≡ []
none_lost r [] all = refl
none_lost r (event.Send q k p note ∷ events) all = none_lost r events (λ d there. all d (suc there.0, there.1))
none_lost r (event.Receipt p n q k ∷ events) all =
    let later = none_lost r events (λ d there. all d (suc there.0, there.1)) in
    let here = all (record { from = q; ssn = k; to = p; rsn = n }) (0, refl) in
    grind (arith, here, later)

pub nobody_lost : (next : Next ℕ Note) (r : GroupRecord ℕ Note) → IsSound next r → sets.len r.down ≡ 0 → lost_receipts r ≡ []
nobody_lost next r sound nobody = none_lost r r.trace (λ d there. up_recorded next r d sound there (up_if_none (sets.empty_of_len _ nobody) d.to))

-- ---- what is lost after a strike without what was lost before it

-- as many of the receipts before were passed as there are among the first ones after, of which the others are these
abbrev pub IsParted : List Determinant → List Determinant → List Determinant → ℕ → ℕ → Type 0
IsParted before after lost passed i =
    (passed ≤ length before)
    × ((recorded : Determinant → Bool) → before ≡ filter (λ d. not (recorded d)) after
    → (lost ≡ filter recorded (take i after)) × (drop passed before ≡ filter (λ d. not (recorded d)) (drop i after)))

-- where the first of these items is the first that the test takes of those, it takes it, and goes on behind it
head_passed : {A : Type 0} (p : A → Bool) (d : A) (xs ys : List A) → d ∷ xs ≡ filter p (d ∷ ys) → (p d ≡ true) × (xs ≡ filter p ys)
head_passed p d xs ys is =
    let passes = subst (λ zs. (k : ℕ) (e : _) → k < length zs → p (get_or zs k e) ≡ true) (sym is) (filter_passes p (d ∷ ys)) in
    let yes : p d ≡ true = passes 0 d (omega arith) in
    let same : d ∷ xs ≡ d ∷ filter p ys = rw yes at is in
    (yes, cc)

module _ (before after lost : List Determinant) (passed i : ℕ) (d : Determinant) (within : i < length after) (is : d ≡ get_or after i d) (so_far : IsParted before after lost passed i) where
  module _ (recorded : Determinant → Bool) (others : before ≡ filter (λ d. not (recorded d)) after) where
    abbrev rest : List Determinant
    rest = filter (λ d. not (recorded d)) (drop (i + 1) after)

    taken : filter recorded (take (i + 1) after) ≡ lost ++ cond (recorded d) (d ∷ []) []
    taken =
        ap (filter recorded) (take_more after i d within ∙ ap (λ x. take i after ++ x ∷ []) (sym is)) ∙ filter-append recorded (take i after) (d ∷ [])
        ∙ ap (λ xs. xs ++ cond (recorded d) (d ∷ []) []) (sym (so_far.1 recorded others).0)

    left : drop passed before ≡ cond (not (recorded d)) (d ∷ rest) rest
    left = (so_far.1 recorded others).1 ∙ ap (filter (λ d. not (recorded d))) (drop_more after i d within ∙ ap (λ x. x ∷ drop (i + 1) after) (sym is))

    passed_one : passed < length before → get_or before passed d ≡ d → (lost ≡ filter recorded (take (i + 1) after)) × (drop (passed + 1) before ≡ rest)
    passed_one more same =
        let head = head_passed (λ d. not (recorded d)) d (drop (passed + 1) before) (drop (i + 1) after) (ap (λ x. x ∷ drop (passed + 1) before) (sym same) ∙ sym (drop_more before passed d more) ∙ left) in
        let kept : recorded d ≡ false = grind (arith, head.0) in
        (sym (taken ∙ ap (λ b. lost ++ cond b (d ∷ []) []) kept ∙ append-nil lost), head.1)

    -- the next of those before is this one, where this one was lost before
    is_next : drop passed before ≡ d ∷ rest → (passed < length before) × (get_or before passed d ≡ d)
    is_next front =
        let more : passed < length before = omega (arith, length-drop {A = Determinant}, ap length front) in
        let heads : get_or before passed d ∷ drop (passed + 1) before ≡ d ∷ rest = sym (drop_more before passed d more) ∙ front in
        (more, cc)

    pushed_by : (b : Bool) → recorded d ≡ b → (passed < length before → get_or before passed d ≡ d → ⊥)
        → (lost ++ d ∷ [] ≡ filter recorded (take (i + 1) after)) × (drop passed before ≡ rest)
    pushed_by true kept other = (sym (taken ∙ ap (λ b. lost ++ cond b (d ∷ []) []) kept), left ∙ ap (λ b. cond (not b) (d ∷ rest) rest) kept)
    pushed_by false kept other = (let next = is_next (left ∙ ap (λ b. cond (not b) (d ∷ rest) rest) kept) in absurd (other next.0 next.1))

  -- the receipt was lost before
  pub parted_passed : passed < length before → get_or before passed d ≡ d → IsParted before after lost (passed + 1) (i + 1)
  parted_passed more same = (omega (arith, more), λ recorded others. passed_one recorded others more same)

  -- or it was not
  pub parted_pushed : (passed < length before → get_or before passed d ≡ d → ⊥) → IsParted before after (lost ++ d ∷ []) passed (i + 1)
  parted_pushed other = (so_far.0, λ recorded others. pushed_by recorded others (recorded d) refl other)

-- the receipt e at the place passed is the one that a test of equality was asked of
same_at : (before : List Determinant) (passed : ℕ) (d e : Determinant) → passed < length before → e ≡ get_or before passed e → get_or before passed d ≡ e
same_at before passed d e more is = get_or_default before passed d e more ∙ sym is

pub is_same : (before : List Determinant) (passed : ℕ) (d e : Determinant) → passed < length before → e ≡ get_or before passed e → same_determinant e d ≡ true → get_or before passed d ≡ d
is_same before passed d e more is same = same_at before passed d e more is ∙ (Decides-same_determinant e d).0 same

pub is_other : (before : List Determinant) (passed : ℕ) (d e : Determinant) → e ≡ get_or before passed e → same_determinant e d ≡ false → passed < length before → get_or before passed d ≡ d → ⊥
is_other before passed d e is other more same = false≢true (sym other ∙ (Decides-same_determinant e d).1 (sym (same_at before passed d e more is) ∙ same))
