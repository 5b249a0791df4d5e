-- The lines of an input, and what stands behind and before a byte.
use Rattle.fbl_records.proofs.Common.{append-nil, inl, inr, Bool, list_any, ◌≡◌, ◌<◌, ◌≤◌, ◌+◌, ◌-◌, ◌==◌, ◌++◌, ◌∷◌, ◌∙◌, [], List, ℕ, ap, append_assoc, arith, cond, drop, get_or, length, map, map_push, not, refl, sym, subst, suc, take, take_all, take_more, true, false, option_map, Option, None, json_of}
use Rattle.std.specs.Prelude.{◌⊎◌, unwrap_or}
use Rattle.std.specs.List.{after_first, before_last, flat_map, position_or_len, suffix_len, slice_range}
use Rattle.std.specs.Borrow.{Bor}
use Rattle.std.proofs.lemmas.Bool.{false_from_ne_true}
use Rattle.std.proofs.lemmas.List.{drop_all, get_or-drop, length-drop}
use Rattle.std.proofs.lemmas.List.Sums.{position_or_len_is, suffix_len_is}
use Rattle.std.proofs.Math.Seq.{drop-cons}
use Rattle.memchr.specs.Find.{NoneAfter, NoneBefore, Nowhere, Passes, is_byte}
use Rattle.fbl_records.specs.EventLines.{has_newline, is_whole, json_text, lines_from, lines_of, lines_text}

-- ---- bytes

pub behind_first_at : (byte : ℕ) (text : List ℕ) (k : ℕ) → NoneBefore (Passes (is_byte byte) text) 0 (length text) k × Passes (is_byte byte) text k
    → take (length text - (k + 1)) (drop (k + 1) text) ≡ after_first (λ b. b == byte) text
behind_first_at byte text k h =
    let at : position_or_len (λ b. b == byte) text ≡ k = position_or_len_is (λ b. b == byte) text k 0 (omega (arith, h.0.high)) (λ j below. false_from_ne_true _ (h.0.before j (omega arith) below)) (λ _. h.1) in
    let size : length (drop (k + 1) text) ≡ length text - (k + 1) = length-drop (k + 1) text in
    take_all _ _ (omega (arith, size)) ∙ ap (λ n. drop (n + 1) text) (sym at)

pub behind_none : (byte : ℕ) (text : List ℕ) → Nowhere (Passes (is_byte byte) text) 0 (length text) → ◌≡◌ {A = List ℕ} [] (after_first (λ b. b == byte) text)
behind_none byte text h =
    let at : position_or_len (λ b. b == byte) text ≡ length text = position_or_len_is (λ b. b == byte) text (length text) 0 (omega arith) (λ j below. false_from_ne_true _ (h j (omega arith) below)) (λ lt. absurd (omega (arith, lt))) in
    sym (drop_all _ text (omega (arith, at)))

pub before_last_at : (byte : ℕ) (text : List ℕ) (k : ℕ) → NoneAfter (Passes (is_byte byte) text) 0 (length text) k × Passes (is_byte byte) text k
    → take k text ≡ before_last (λ b. b == byte) text
before_last_at byte text k h =
    let back : k + 1 - 1 ≡ k = omega arith in
    let behind : suffix_len (λ b. not (b == byte)) text ≡ length text - (k + 1) =
    suffix_len_is (λ b. not (b == byte)) text (k + 1) 0 (omega (arith, h.0.high)) (λ j least below. ap not (false_from_ne_true _ (h.0.after j least below))) (λ _. ap not (subst (λ n. (get_or text n 0 == byte) ≡ true) (sym back) h.1)) in
    ap (λ n. take n text) (omega (arith, behind, h.0.high))

pub before_none : (byte : ℕ) (text : List ℕ) → Nowhere (Passes (is_byte byte) text) 0 (length text) → ◌≡◌ {A = List ℕ} [] (before_last (λ b. b == byte) text)
before_none byte text h =
    let behind : suffix_len (λ b. not (b == byte)) text ≡ length text - 0 =
    suffix_len_is (λ b. not (b == byte)) text 0 0 (omega arith) (λ j least below. ap not (false_from_ne_true _ (h j least below))) (λ lt. absurd (omega (arith, lt))) in
    let none : 0 ≡ length text - suffix_len (λ b. not (b == byte)) text - 1 = omega (arith, behind) in
    ap (λ n. take n text) none

-- ---- lines

-- the lines from a place on, where one was begun at an earlier place
abbrev pub lines_at : List ℕ → ℕ → ℕ → List (List ℕ)
lines_at input start place = lines_from (slice_range input start place) (drop place input)

next_byte : (input : List ℕ) (place : ℕ) → place < length input → drop place input ≡ get_or input place 0 ∷ drop (place + 1) input
next_byte input place within = (let next : place + 1 ≡ suc place = omega arith in rw next (drop-cons input place 0 within))

-- a newline ends the line that was begun
pub ends_line : (input : List ℕ) (start place : ℕ) → start ≤ place → place < length input → get_or input place 0 ≡ 10
    → lines_at input start place ≡ slice_range input start place ∷ lines_at input (place + 1) (place + 1)
ends_line input start place low within newline =
    let none : place + 1 - (place + 1) ≡ 0 = omega arith in
    rw (next_byte input place within, newline, none) refl

-- another byte is the line's
pub goes_on : (input : List ℕ) (start place : ℕ) → start ≤ place → place < length input → (get_or input place 0 == 10) ≡ false
    → lines_at input start place ≡ lines_at input start (place + 1)
goes_on input start place low within other =
    let size : length (drop start input) ≡ length input - start = length-drop start input in
    let next : place + 1 - start ≡ place - start + 1 = omega (arith, low) in
    let here : start + (place - start) ≡ place = omega (arith, low) in
    let byte : get_or (drop start input) (place - start) 0 ≡ get_or input place 0 = get_or-drop start input (place - start) 0 ∙ ap (λ n. get_or input n 0) here in
    let begun : slice_range input start (place + 1) ≡ slice_range input start place ++ get_or input place 0 ∷ [] =
    ap (λ n. take n (drop start input)) next ∙ take_more (drop start input) (place - start) 0 (omega (arith, size, low, within)) ∙ ap (λ b. slice_range input start place ++ b ∷ []) byte in
    ap (lines_from (slice_range input start place)) (next_byte input place within)
    ∙ ap (λ b. cond b (slice_range input start place ∷ lines_from [] (drop (place + 1) input)) (lines_from (slice_range input start place ++ get_or input place 0 ∷ []) (drop (place + 1) input))) other
    ∙ ap (λ l. lines_from l (drop (place + 1) input)) (sym begun)

-- one line more is found
pub one_more : (found : List (Bor (List ℕ))) (more : Bor (List ℕ)) (rest : List (List ℕ)) → map (λ l. l.now) (found ++ more ∷ []) ++ rest ≡ map (λ l. l.now) found ++ more.now ∷ rest
one_more found more rest = ap (λ ls. ls ++ rest) (map_push (λ (l : Bor (List ℕ)). l.now) found more) ∙ append_assoc (map (λ l. l.now) found) (more.now ∷ []) rest

-- a text without a newline goes on the line that was begun
no_newline : (begun text rest : List ℕ) → has_newline text ≡ false → lines_from begun (text ++ rest) ≡ lines_from (begun ++ text) rest
no_newline begun [] rest none = ap (λ l. lines_from l rest) (sym (append-nil begun))
no_newline begun (b ∷ bs) rest none =
    let first : (b == 10) ≡ false = grind (arith, none) in
    let others : has_newline bs ≡ false = grind (arith, none) in
    ap (λ c. cond c (begun ∷ lines_from [] (bs ++ rest)) (lines_from (begun ++ b ∷ []) (bs ++ rest))) first ∙ no_newline (begun ++ b ∷ []) bs rest others
    ∙ ap (λ l. lines_from l rest) (append_assoc begun (b ∷ []) bs)

pub lines_found : (lines : List (List ℕ)) (torn : List ℕ) → list_any has_newline lines ≡ false → has_newline torn ≡ false → lines_of (flat_map (λ line. line ++ 10 ∷ []) lines ++ torn) ≡ lines
lines_found [] torn none whole = ap (lines_from []) (sym (append-nil torn)) ∙ no_newline [] torn [] whole
lines_found (line ∷ lines) torn none whole =
    let first : has_newline line ≡ false = grind (arith, none) in
    let others : list_any has_newline lines ≡ false = grind (arith, none) in
    let rest : List ℕ = flat_map (λ line. line ++ 10 ∷ []) lines ++ torn in
    ap (lines_from []) (append_assoc (line ++ 10 ∷ []) (flat_map (λ line. line ++ 10 ∷ []) lines) torn ∙ append_assoc line (10 ∷ []) rest)
    ∙ no_newline [] line (10 ∷ rest) first ∙ ap (λ ls. line ∷ ls) (lines_found lines torn others whole)

-- ---- texts

-- an input that is JSON, and more than the first line of a log, means itself
pub own_text : (input : List ℕ) → is_whole (json_of input) ≡ true → json_text input ≡ input
unfolding json_text
own_text input is = ap (λ b. cond b input (unwrap_or (lines_text input) input)) is

-- so does one that has not the lines of a log
pub meant_as_it_is : (input : List ℕ) → (is_whole (json_of input) ≡ true) ⊎ (lines_text input ≡ None) → json_text input ≡ input
unfolding json_text
meant_as_it_is input (inl is) = own_text input is
meant_as_it_is input (inr none) = ap (λ o. cond (is_whole (json_of input)) input (unwrap_or o input)) none ∙ same (is_whole (json_of input))
  where
    same : (b : Bool) → cond b input input ≡ input
    same true = refl
    same false = refl

-- and another what its lines mean
pub lines_meant : {X : Type 0} (f : X → List ℕ) (input : List ℕ) (found : Option X) → is_whole (json_of input) ≡ false → option_map f found ≡ lines_text input → json_text input ≡ unwrap_or (option_map f found) input
unfolding json_text
lines_meant f input found none is = ap (λ b. cond b input (unwrap_or (lines_text input) input)) none ∙ ap (λ o. unwrap_or o input) (sym is)
