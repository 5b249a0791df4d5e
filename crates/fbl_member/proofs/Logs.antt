-- Logs of sends, which are numbered from 1.
use Rattle.fbl_member.proofs.Common.{◌≡◌, ℕ, ◌+◌, ◌<◌, ◌≤◌, ◌==◌, List, [], ◌∷◌, ◌++◌, map, Some, refl, sym, ap, ◌∙◌, arith, length, nat_tests, numbered, starts_of, zero, suc, if◌then◌else◌, None}
use Rattle.fbl_member.proofs.Common.{drop, false, logged_beyond, nat_lt}
use Rattle.fbl_member.proofs.Common.{slice_get, slice_set, length-append, length-set, option_map, length-filter_map, Start, MemberRecord, logged_note, without_number, IsKept}

module _ {N : Type 0} where
  pub length-numbered : (before : ℕ) (sends : List (ℕ × N)) → length (numbered before sends) ≡ length sends
  length-numbered before [] = refl
  length-numbered before (s ∷ sends) = ap suc (length-numbered (before + 1) sends)

  numbered-on : (before next : ℕ) (xs ys : List (ℕ × N)) → next ≡ before + length xs → numbered before (xs ++ ys) ≡ numbered before xs ++ numbered next ys
  numbered-on before next [] ys is = (let same : next ≡ before = omega (arith, is) in rw same refl)
  numbered-on before next (x ∷ xs) ys is = grind (arith, nat_tests, numbered-on (before + 1) next xs ys (omega (arith, is)))

  pub numbered-append : (before : ℕ) (xs ys : List (ℕ × N)) → numbered before (xs ++ ys) ≡ numbered before xs ++ numbered (before + length xs) ys
  numbered-append before xs ys = numbered-on before (before + length xs) xs ys refl

  -- no message up to a number is beyond it
  pub beyond-later : (before skipped next : ℕ) (log : List (ℕ × N)) (to ssn : ℕ) → next ≡ before + skipped → next ≤ ssn
      → logged_beyond (numbered next (drop skipped log)) to ssn ≡ logged_beyond (numbered before log) to ssn
  beyond-later before zero next log to ssn is le = (let same : next ≡ before = omega (arith, is) in rw same refl)
  beyond-later before (suc k) next [] to ssn is le = refl
  beyond-later before (suc k) next (s ∷ log) to ssn is le =
      let rest = beyond-later (before + 1) k next log to ssn (omega (arith, is)) le in
      let up : nat_lt ssn (before + 1) ≡ false = grind (arith, nat_tests, is, le) in
      grind (arith, nat_tests, rest, up)

  sends-numbered : (before : ℕ) (sends : List (ℕ × N)) → map without_number (numbered before sends) ≡ sends
  sends-numbered before [] = refl
  sends-numbered before (s ∷ sends) = ap (λ l. s ∷ l) (sends-numbered (before + 1) sends)

  -- the numbers of a log of sends
  pub numbered-again : (sends : List (ℕ × N)) → numbered 0 sends ≡ numbered 0 (map without_number (numbered 0 sends))
  numbered-again sends = ap (numbered 0) (sym (sends-numbered 0 sends))

  -- the log after more sends
  pub numbered-more : (log sends : List (ℕ × N)) → numbered 0 (log ++ sends) ≡ numbered 0 log ++ numbered (length (numbered 0 log)) sends
  numbered-more log sends = numbered-on 0 _ log sends (omega (arith, length-numbered 0 log))

  pub few_starts : (me : ℕ) (starts : List (Start N)) → length (starts_of me starts) ≤ length starts
  few_starts me starts = length-filter_map (λ s. if s.from == me then Some (s.to, s.note) else None) starts

  -- the send at a place of the log
  pub noted-at : (before : ℕ) (log : List (ℕ × N)) (i n : ℕ) → n ≡ before + i + 1 → logged_note (numbered before log) n ≡ option_map (λ s. s.1) (slice_get log i)
  noted-at before [] i n is = refl
  noted-at before (s ∷ log) zero n is = grind (arith, nat_tests)
  noted-at before (s ∷ log) (suc i) n is = (let rest = noted-at (before + 1) log i n (omega (arith, is)) in grind (arith, nat_tests, rest))

  -- no send has a number of those before
  pub noted-none : (before : ℕ) (log : List (ℕ × N)) (ssn : ℕ) → ssn ≤ before → logged_note (numbered before log) ssn ≡ None
  noted-none before [] ssn le = refl
  noted-none before (s ∷ log) ssn le = (let rest = noted-none (before + 1) log ssn (omega (arith, le)) in grind (arith, nat_tests, rest))

module _ {S N : Type 0} where
  -- what a member's record keeps of its log is numbered
  pub kept : (m : MemberRecord S N) (log : List (ℕ × N)) → length m.last ≡ 16 → m.received ≤ 8192 → length log ≤ 8192 → m.log ≡ numbered 0 log → IsKept m
  kept m log lasts receipts sends is = grind (arith, nat_tests, length-numbered, numbered-again)

module _ {N : Type 0} where
  -- what one receipt leaves within bounds
  pub bounded : (received q ssn : ℕ) (last : List ℕ) (log after sends : List (ℕ × N)) → length last ≡ 16 → received < 8192 → after ≡ log ++ sends
      → length (numbered 0 log) + length sends ≤ 8192 → (length (slice_set last q ssn) ≡ 16) × (received + 1 ≤ 8192) × (length after ≤ 8192)
  bounded received q ssn last log after sends lasts receipts grown room =
      let all : length after ≡ length log + length sends = ap length grown ∙ length-append log sends in
      (length-set last q ssn ∙ lasts, omega arith, omega (arith, all, length-numbered 0 log, room))
