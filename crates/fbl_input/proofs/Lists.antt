-- The items of a value as a list, its keys, and the bytes that it is read from.
use Rattle.fbl_input.proofs.Common.{arith, ◌≡◌, List, [], ◌∷◌, refl, ap, ◌∙◌, map, String, string_bytes, find, IsUtf8, longest, or_fault, value_of_input, IsUtf8-from_is_utf8, is_utf8-from_IsUtf8, read, Global, Value, Data}
use Rattle.fbl_input.proofs.Common.{items_of, members_view, Key, elements, is_key_of, other_key, json_of, InputKind}
use Rattle.serde_json.specs.Find.{as_object}
use Rattle.fbl_input.specs.Items.{known_keys, unknown_key}
use Rattle.std.specs.Prelude.{ℕ, ◌≤◌, ◌+◌, Bool, not, Option, Some, None, Err, option_map, cond, length}
use Rattle.std.specs.List.{position, position_or_len}
use Rattle.std.proofs.lemmas.Bool.{le-ltb}
use Rattle.std.proofs.lemmas.List.{length-map}
use Rattle.std.specs.Borrow.{Bor}
use Rattle.fbl_input.specs.declared.fault.RunFault.TheVariants as faults

pub elements_of : (ds : List Data) → elements (items_of ds) ≡ ds
elements_of [] = refl
elements_of (d ∷ ds) = ap (λ rest. d ∷ rest) (elements_of ds)

other_key_of : (known : List Key) (ms : List (String Global × Value))
    → option_map string_bytes (find (λ k. not (is_key_of known (string_bytes k))) (map (λ m. m.0) ms)) ≡ other_key known (members_view ms)
other_key_of known [] = refl
other_key_of known (m ∷ ms) = grind (arith, other_key_of known ms)

pub unknown_key_of : (kind : InputKind) (d : Data) (ms : List (String Global × Value)) → as_object d ≡ Some (members_view ms)
    → option_map string_bytes (find (λ k. not (is_key_of (known_keys kind) (string_bytes k))) (map (λ m. m.0) ms)) ≡ unknown_key kind d
unknown_key_of kind d ms is = rw is (other_key_of (known_keys kind) ms)

pub json_read : (bytes : List ℕ) (d : Data) → IsUtf8 bytes → read bytes ≡ Some d → json_of bytes ≡ Some d
json_read bytes d text e = ap (λ b. cond b (read bytes) None) (is_utf8-from_IsUtf8 bytes text) ∙ e

-- an input that is not too long is what its bytes spell
pub short_value : (bytes : List ℕ) → length bytes ≤ longest → value_of_input bytes ≡ or_fault faults.NotJson (json_of bytes)
short_value bytes short = ap (λ b. cond b (Err faults.TooLong) (or_fault faults.NotJson (json_of bytes))) (le-ltb longest (length bytes) short)

pub json_refused : (bytes : List ℕ) → (IsUtf8 bytes → read bytes ≡ None) → json_of bytes ≡ None
json_refused bytes refused = grind (arith, refused, IsUtf8-from_is_utf8 bytes)

-- the first place in a list, as it is seen
or_len_map : {X Y : Type 0} (test : Y → Bool) (f : X → Y) (xs : List X) → position_or_len test (map f xs) ≡ position_or_len (λ x. test (f x)) xs
or_len_map test f [] = refl
or_len_map test f (x ∷ xs) = ap (λ n. cond (not (test (f x))) (1 + n) 0) (or_len_map test f xs)

pub position_map : {X Y : Type 0} (test : Y → Bool) (f : X → Y) (xs : List X) → position test (map f xs) ≡ position (λ x. test (f x)) xs
position_map test f xs = rw (or_len_map test f xs, length-map) refl

-- the bytes of a text that is lent
pub lent_bytes : (r : Option (Bor (String Global))) → option_map (λ name. string_bytes name.now) r ≡ option_map string_bytes (option_map (λ name. name.now) r)
lent_bytes None = refl
lent_bytes (Some name) = refl
