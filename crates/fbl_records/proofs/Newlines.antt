-- A newline behind a text changes nothing of what JSON reads in it.
use Rattle.fbl_records.proofs.Common.{◌≡◌, ℕ, ◌+◌, ◌-◌, true, false, cond, ◌&&◌, ◌==◌, nat_lt, List, [], ◌∷◌, ◌++◌, length, drop, Option, Some, None, IsUtf8}
use Rattle.fbl_records.proofs.Common.{option_map, option_and_then, refl, ap, sym, ◌∙◌, arith, append-nil, length-append, nat_eq, not, and-false, take-append-le, drop-append-le}
use Rattle.fbl_records.proofs.Common.{prefix_len-le-length, IsUtf8-append, is_ascii_digit, list_all, prefix_len, starts_with, Data, max_depth, of_json, read, json_of, json_read}
use Rattle.std.specs.Char.{encode_utf8}
use Rattle.json.specs.Ascii.{false_text, null_text, true_text}
use Rattle.json.specs.Json.{if_last, value}
use Rattle.json.specs.Lex.{Class, Lexeme, Mode, between, class, fresh, in_string, in_word, lex, lex_byte, other, punctuate, quote, string_token, token}
use Rattle.json.specs.Text.{Within, after_backslash, after_high, after_u, code_unit, content, is_high_surrogate, is_low_surrogate, plain, prepend, short_escape, surrogate_pair}
use Rattle.json.specs.Token.{Token, bad, boolean, null}
use Rattle.json.specs.Lex.{tokens}
use Rattle.json.specs.Print.{print}
use Rattle.json.specs.Tree.{json_tokens}
use Rattle.json.proofs.Printed.Trees.{value-json_tokens}
use Rattle.serde_json.specs.Written.{compact_text, outline}
use Rattle.serde_json.proofs.Texts.{print-outline}
use Rattle.fbl_records.specs.DumpLines.{IsSpelled}
use Rattle.json.specs.Word.{after_digits, after_exponent, after_fraction, after_minus, after_number, after_sign, after_whole, ends_word, head, literal, number_before, word}

abbrev pub newline : List ℕ
newline = 10 ∷ []

-- ---- strings: one that is not closed before the newline is none

no_unit : (a b c : ℕ) → code_unit a b c 10 ≡ None
unfolding code_unit
no_unit a b c = rw and-false

content_same : (w : Within) (xs : List ℕ) → content w (xs ++ newline) ≡ content w xs
unfolding content short_escape
content_same plain (x ∷ xs) = λ i. cond (x == 34) (Some []) (cond (x == 92) (content_same after_backslash xs i) (cond (nat_lt x 32) None (prepend (x ∷ []) (content_same plain xs i))))
content_same after_backslash (x ∷ xs) = λ i. cond (x == 117) (content_same after_u xs i) (option_and_then (λ c. prepend (c ∷ []) (content_same plain xs i)) (short_escape x))
content_same after_u (a ∷ b ∷ c ∷ []) = rw (no_unit a b c) refl
content_same after_u (a ∷ b ∷ c ∷ d ∷ xs) =
    λ i. option_and_then (λ u. cond (is_high_surrogate u) (content_same (after_high u) xs i) (cond (is_low_surrogate u) None (prepend (encode_utf8 u) (content_same plain xs i)))) (code_unit a b c d)
content_same (after_high h) (s ∷ u ∷ a ∷ b ∷ c ∷ []) = grind (arith, no_unit a b c)
content_same (after_high h) (s ∷ u ∷ a ∷ b ∷ c ∷ d ∷ xs) =
    λ i. cond ((s == 92) && (u == 117)) (option_and_then (λ l. cond (is_low_surrogate l) (prepend (encode_utf8 (surrogate_pair h l)) (content_same plain xs i)) None) (code_unit a b c d)) None
content_same _ _ = refl

-- ---- words: what a part leaves of a text ends with the newline too

abbrev With : Option (List ℕ) → Option (List ℕ)
With o = option_map (λ r. r ++ newline) o

head_same : (c : ℕ) (t : List ℕ) → (10 == c) ≡ (32 == c) → (head (t ++ newline) == c) ≡ (head t == c)
head_same c [] e = e
head_same c (x ∷ xs) e = refl

ends_same : (t : List ℕ) → ends_word (t ++ newline) ≡ ends_word t
ends_same [] = refl
ends_same (x ∷ xs) = refl

digits_same : (t : List ℕ) → prefix_len is_ascii_digit (t ++ newline) ≡ prefix_len is_ascii_digit t
digits_same [] = refl
digits_same (x ∷ xs) = ap (λ n. cond (is_ascii_digit x) (1 + n) 0) (digits_same xs)

after_digits_same : (t : List ℕ) → after_digits (t ++ newline) ≡ With (after_digits t)
after_digits_same t =
    let n = prefix_len is_ascii_digit t in
    grind (arith, digits_same t, drop-append-le n t newline (prefix_len-le-length is_ascii_digit t))

after_minus_same : (t : List ℕ) → after_minus (t ++ newline) ≡ after_minus t ++ newline
after_minus_same [] = refl
after_minus_same (x ∷ xs) = grind arith

after_sign_same : (t : List ℕ) → after_sign (t ++ newline) ≡ after_sign t ++ newline
after_sign_same [] = refl
after_sign_same (x ∷ xs) = grind arith

after_whole_same : (t : List ℕ) → after_whole (t ++ newline) ≡ With (after_whole t)
after_whole_same [] = refl
after_whole_same (x ∷ xs) = grind (arith, after_digits_same (x ∷ xs))

after_fraction_same : (t : List ℕ) → after_fraction (t ++ newline) ≡ With (after_fraction t)
after_fraction_same [] = refl
after_fraction_same (x ∷ xs) = grind (arith, after_digits_same xs)

after_exponent_same : (t : List ℕ) → after_exponent (t ++ newline) ≡ With (after_exponent t)
after_exponent_same [] = refl
after_exponent_same (x ∷ xs) = grind (arith, after_sign_same xs, after_digits_same (after_sign xs))

then_same : (f : List ℕ → Option (List ℕ)) → ((t : List ℕ) → f (t ++ newline) ≡ With (f t)) → (o : Option (List ℕ)) → option_and_then f (With o) ≡ With (option_and_then f o)
then_same f same None = refl
then_same f same (Some t) = same t

after_number_same : (t : List ℕ) → after_number (t ++ newline) ≡ With (after_number t)
unfolding after_number
after_number_same t =
    let whole = after_whole (after_minus t) in
    let then_fraction = then_same after_fraction after_fraction_same whole in
    let then_exponent = then_same after_exponent after_exponent_same (option_and_then after_fraction whole) in
    grind (arith, after_minus_same t, after_whole_same (after_minus t), then_fraction, then_exponent)

number_before_same : (t : List ℕ) (o : Option (List ℕ)) → number_before (t ++ newline) (With o) ≡ number_before t o
number_before_same t None = refl
number_before_same t (Some rest) =
    grind (arith, ends_same rest, length-append t newline, length-append rest newline, take-append-le (length t - length rest) t newline (omega arith))

-- a name with no newline is at the front of the text as it was
literal_same : (name : List ℕ) (named : Token) → list_all (λ c. not (c == 10)) name ≡ true → (t : List ℕ)
    → literal name named (t ++ newline) ≡ literal name named t
literal_same name named free t = ap (λ b. cond b named bad) (at_front name free t) where
  at_front : (name : List ℕ) → list_all (λ c. not (c == 10)) name ≡ true → (t : List ℕ)
      → (starts_with nat_eq (t ++ newline) name && ends_word (drop (length name) (t ++ newline))) ≡ (starts_with nat_eq t name && ends_word (drop (length name) t))
  at_front [] free t = ends_same t
  at_front (c ∷ cs) free [] = grind arith
  at_front (c ∷ cs) free (x ∷ xs) = grind (arith, at_front cs (grind arith) xs)

word_same : (t : List ℕ) → word (t ++ newline) ≡ word t
unfolding word
word_same t =
    let numeral : number_before (t ++ newline) (after_number (t ++ newline)) ≡ number_before t (after_number t) =
    ap (λ o. number_before (t ++ newline) o) (after_number_same t) ∙ number_before_same t (after_number t) in
    λ i. cond (head_same 116 t refl i) (literal_same true_text (boolean true) refl t i)
    (cond (head_same 102 t refl i) (literal_same false_text (boolean false) refl t i) (cond (head_same 110 t refl i) (literal_same null_text null refl t i) (numeral i)))

-- ---- the text

byte_same : (m : Mode) (c : Class) (x : ℕ) (xs ys : List ℕ) (k l : Mode → List Lexeme) → content plain xs ≡ content plain ys
    → word (x ∷ xs) ≡ word (x ∷ ys) → ((n : Mode) → k n ≡ l n) → lex_byte m c x xs k ≡ lex_byte m c x ys l
byte_same between quote x xs ys k l text w next = λ i. token (string_token (text i)) ∷ next in_string i
byte_same between other x xs ys k l text w next = λ i. token (w i) ∷ next in_word i
byte_same in_word quote x xs ys k l text w next = next in_word
byte_same in_string quote x xs ys k l text w next = next between
byte_same m c x xs ys k l text w next = λ i. lex_byte m c x xs (λ n. next n i)

lex_same : (m : Mode) (t : List ℕ) → lex m (t ++ newline) ≡ lex m t
unfolding lex
lex_same between [] = refl
lex_same m [] = refl
lex_same m (x ∷ xs) = byte_same m (class x) x (xs ++ newline) xs (λ n. lex n (xs ++ newline)) (λ n. lex n xs) (content_same plain xs) (word_same (x ∷ xs)) (λ n. lex_same n xs)

read_same : (t : List ℕ) → read (t ++ newline) ≡ read t
read_same t = ap (λ ls. option_and_then of_json (option_and_then (λ p. if_last p.0 p.1) (value max_depth (punctuate fresh ls)))) (lex_same between t)

pub newline_is_text : IsUtf8 newline
unfolding encode_utf8
newline_is_text = (10 ∷ [], (refl, refl))

-- a value's text is read with a newline behind it
pub line_read : (d : Data) (ts : List Token) → ts ≡ json_tokens (outline d) → tokens (print ts) ≡ ts → IsUtf8 (print ts) → IsSpelled 3 d → json_of (compact_text d ++ 10 ∷ []) ≡ Some d
line_read d ts is same text spelled =
    let printed : print ts ≡ compact_text d = ap print is ∙ print-outline d in
    let found : read (print ts) ≡ Some d = ap (λ v. option_and_then of_json (option_and_then (λ p. if_last p.0 p.1) v)) (ap (value max_depth) (same ∙ is ∙ sym (append-nil _)) ∙ value-json_tokens (outline d) max_depth [] (omega (arith, spelled.1))) ∙ spelled.0 in
    ap (λ t. json_of (t ++ newline)) (sym printed) ∙ json_read (print ts ++ newline) d (IsUtf8-append (print ts) newline text newline_is_text) (read_same (print ts) ∙ found)
