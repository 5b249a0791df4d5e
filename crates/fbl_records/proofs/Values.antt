-- Values that are written, and how they are read back.
use Rattle.fbl_records.proofs.Common.{◌≡◌, ℕ, ◌+◌, ◌<◌, ◌≤◌, List, [], ◌∷◌, ◌++◌, append_assoc, map, take, get_or, length, suc, zero, refl, sym, ap, subst, ◌∙◌, arith, Bool, cond, true, false, Option, Some}
use Rattle.fbl_records.proofs.Common.{option_map, Err, nat_cmp, nat_eq, nat_lt, take_more, All-push, any-filter_same, eqb-true, le-leb, le-ltb, Result, All, filter, list_any, range_with_len}
use Rattle.fbl_records.proofs.Common.{nat_cmp_total, Data, AllBelow, number_within, list_of, member_shape, set_shape, list_data, number_data}
use Rattle.fbl_records.proofs.Common.{RunFault, json_of, longest, or_fault, value_of_input, ◌>>=◌}
use Rattle.std.specs.FinSet as set
use Rattle.std.specs.Prelude.{◌^◌}
use Rattle.json.specs.Token.{Token}
use Rattle.json.specs.Written.{Writes, Written}
use Rattle.serde_json.specs.Data.{number}
use Rattle.serde_json.proofs.Numbers.{number_of-decimal}
use Rattle.fbl_trace.specs.MemberSets.{member_list}
use Rattle.fbl_input.specs.declared.fault.RunFault.TheVariants as faults
use Rattle.fbl_records.specs.DumpLines.{AppendsTokens, AreReadBack, IsReadBack, IsSpelled}

-- ---- what is written, and reads as the value

pub token_written : {E : Type 0} {r : Result (Unit {0}) E} {old new : Written} {t : Token} → Writes r old new t → new.tokens ≡ old.tokens ++ t ∷ [] → AppendsTokens (t ∷ []) old new
token_written w ok = record { before = w.room.0; tokens = ok }

pub next_written : {a b c : Written} {ts us : List Token} → AppendsTokens ts a b → AppendsTokens us b c → AppendsTokens (ts ++ us) a c
next_written {a} {b} {c} {ts} {us} h k = record { before = k.before ∙ h.before; tokens = k.tokens ∙ ap (λ xs. xs ++ us) h.tokens ∙ append_assoc a.tokens ts us }

pub number_spelled : (n : ℕ) → n < 2 ^ 64 → IsSpelled 0 (number_data n)
number_spelled n h = (ap (option_map number) (number_of-decimal n h), omega arith)

-- ---- values of one shape are read back

pub next_read : {X : Type 0} (P : X → Type 0) (xs : List X) (i : ℕ) (x : X) → i < length xs → All P (take i xs) → P (get_or xs i x) → All P (take (i + 1) xs)
next_read P xs i x lt before is = let Q : List _ → Type 0 = All P in subst Q (sym (take_more xs i x lt)) (All-push P (take i xs) (get_or xs i x) before is)

pub all_read : {A : Type 0} (f : A → Data) (shape : Data → Option A) (n : ℕ) (xs : List A) → All (IsReadBack f shape n) xs → AreReadBack f shape n xs
all_read f shape n [] h = (refl, refl, omega arith)
all_read f shape n (x ∷ xs) h =
    let rest = all_read f shape n xs (λ k d lt. h (suc k) d (omega (arith, lt))) in
    let first = h 0 x (omega arith) in
    (rw (first.0, rest.0), rw (first.1.0, rest.1), omega (arith, first.1.1, rest.2))

-- a number among those from a on
found : (a n q : ℕ) → a ≤ q → q < a + n → list_any (λ y. nat_eq y q) (range_with_len a n) ≡ true
found a zero q least below = absurd (omega (arith, least, below))
found a (suc n) q least below = grind (arith, found (a + 1) n q)

-- a filter of the numbers from 0 on keeps what the test tells, below their count
kept : (p : ℕ → Bool) (n q : ℕ) → (p q ≡ true → q < n) → list_any (λ y. nat_eq y q) (filter p (range_with_len 0 n)) ≡ p q
kept p n q below = any-filter_same (λ y. nat_eq y q) p (p q) (λ k e. ap p (eqb-true k q e)) (range_with_len 0 n) ∙ grind (arith, found 0 n q, below)

-- the members of a set, taken into a set again
set_of_members : (s : set.FinSet nat_cmp) → AllBelow s 16 → set.from_list (member_list s) ≡ s
unfolding member_list
set_of_members s below = set.same_set nat_cmp_total set.nat_cmp-IsAntisymmetric _ s (λ q. set.contains-from_list_nat _ q ∙ kept (set.contains s) 16 q (below q))

pub set_read : (s : set.FinSet nat_cmp) → AllBelow s 16 → list_of member_shape (list_data (map number_data (member_list s))) ≡ Some (member_list s) → set_shape (list_data (map number_data (member_list s))) ≡ Some s
set_read s below h = ap (option_map set.from_list) h ∙ ap Some (set_of_members s below)

-- a number that is not too large
pub number_read : (most n : ℕ) → n ≤ most → number_within 0 most (number_data n) ≡ Some n
number_read most n h = rw (le-leb 0 n (omega arith), le-leb n most h)

-- what is asked of a line that spells a value is asked of the value
pub short_read : {A : Type 0} (asked : Data → Result A RunFault) (bytes : List ℕ) (d : Data) → length bytes ≤ longest → json_of bytes ≡ Some d → (value_of_input bytes >>= asked) ≡ asked d
short_read asked bytes d short e =
    let within : nat_lt longest (length bytes) ≡ false = le-ltb longest (length bytes) short in
    ap (λ b. cond b (Err faults.TooLong) (or_fault faults.NotJson (json_of bytes)) >>= asked) within ∙ ap (λ o. or_fault faults.NotJson o >>= asked) e

pub number_back : (most n : ℕ) → n ≤ most → most < 2 ^ 64 → IsReadBack number_data (number_within 0 most) 0 n
number_back most n h fits = (number_read most n h, number_spelled n (omega (arith, h, fits)))
