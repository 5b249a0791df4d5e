-- The shapes of JSON values, and the members of an object.
use Rattle.std.specs.Prelude.{ℕ, ◌&&◌, ◌≡◌, List, [], ◌∷◌, Bool, false, not, Option, Some, None, find, option_and_then, option_map, Result, Ok, Err, nat_le, nat_lt, length, codes, if◌then◌else◌}
use Rattle.std.specs.List.{list_any}
use Rattle.std.specs.Str.{bytes_eq, is_utf8}
use Rattle.std.specs.Ordering.{nat_cmp}
use Rattle.std.specs.FinSet as set
use Rattle.serde_json.specs.Data.{Data, Items, no_items, item, Members, no_members, member}
use Rattle.serde_json.specs.Read.{read}
use Rattle.serde_json.specs.Find.{get, as_number, as_u64, as_str, as_array}
use Rattle.fbl_input.specs.declared.key.Key.{Key}
use Rattle.fbl_input.specs.declared.key.Key.TheVariants as keys
use Rattle.fbl_input.specs.declared.fault.RunFault.{RunFault}
use Rattle.fbl_input.specs.declared.fault.RunFault.TheVariants as faults

-- ---- faults

-- what comes after, unless there is a fault
infixl 10 ◌>>=◌
abbrev pub ◌>>=◌ : {A B : Type 0} → Result A RunFault → (A → Result B RunFault) → Result B RunFault
(Ok x) >>= f = f x
(Err e) >>= f = Err e

-- what is found, or a fault
abbrev pub or_fault : {A : Type 0} → RunFault → Option A → Result A RunFault
or_fault e None = Err e
or_fault e (Some a) = Ok a

-- memory may run out whatever is asked
abbrev pub Fails : {Y : Type 0} → RunFault → Result Y RunFault → Type 0
Fails faults.Memory asked = Unit {0}
Fails e asked = asked ≡ Err e

-- what a function returned, seen by view, is what is asked, unless memory ran out
abbrev pub Gives : {X Y : Type 0} → (X → Y) → Result X RunFault → Result Y RunFault → Type 0
Gives view (Ok x) asked = asked ≡ Ok (view x)
Gives view (Err e) asked = Fails e asked

-- ---- the input

abbrev pub longest : ℕ
longest = 1048576

-- the value that the bytes spell
abbrev pub json_of : List ℕ → Option Data
json_of bytes = if is_utf8 bytes then read bytes else None

-- the value that an input is, or its first fault
abbrev pub value_of_input : List ℕ → Result Data RunFault
value_of_input bytes = if nat_lt longest (length bytes) then Err faults.TooLong else or_fault faults.NotJson (json_of bytes)

-- ---- shapes of a value

-- a whole number from low to high, written with no sign, point or exponent
abbrev pub number_within : ℕ → ℕ → Data → Option ℕ
number_within low high d = option_and_then (λ n. if nat_le low n && nat_le n high then Some n else None) (option_and_then as_u64 (as_number d))

-- a count, a place or a value
abbrev pub count_shape : Data → Option ℕ
count_shape = number_within 0 4294967295

-- a number that a byte holds
abbrev pub byte_shape : Data → Option ℕ
byte_shape = number_within 0 255

abbrev pub member_shape : Data → Option ℕ
member_shape = number_within 0 15

abbrev pub elements : Items → List Data
elements no_items = []
elements (item d ds) = d ∷ elements ds

abbrev pub as_list : Data → Option (List Data)
as_list d = option_map elements (as_array d)

abbrev pub is_text : List ℕ → Data → Bool
is_text text d = unwrap (as_str d)
  where
    unwrap : Option (List ℕ) → Bool
    unwrap None = false
    unwrap (Some s) = bytes_eq s text

-- values of one shape
abbrev pub all_shaped : {A : Type 0} → (Data → Option A) → List Data → Option (List A)
all_shaped shape [] = Some []
all_shaped shape (d ∷ ds) = option_and_then (λ a. option_map (λ rest. a ∷ rest) (all_shaped shape ds)) (shape d)

-- a list of values of one shape
abbrev pub list_of : {A : Type 0} → (Data → Option A) → Data → Option (List A)
list_of shape d = option_and_then (all_shaped shape) (as_list d)

-- a list of members in any order, of which one that is named twice counts once
abbrev pub set_shape : Data → Option (set.FinSet nat_cmp)
set_shape d = option_map set.from_list (list_of member_shape d)

-- ---- the members of an object

abbrev pub name_of : Key → List ℕ
name_of keys.Version = codes "version"
name_of keys.Members = codes "members"
name_of keys.F = codes "f"
name_of keys.Behaviour = codes "behaviour"
name_of keys.Limit = codes "limit"
name_of keys.Start = codes "start"
name_of keys.Commands = codes "commands"
name_of keys.Events = codes "events"
name_of keys.Held = codes "held"
name_of keys.Strike = codes "strike"

-- the value at the key, if it has the shape
abbrev pub field : {A : Type 0} → Key → (Data → Option A) → Data → Result A RunFault
field key shape d = or_fault (faults.BadField key) (option_and_then shape (get (name_of key) d))

-- the value at the key, if it has the shape, or another where the key is missing
abbrev pub field_or : {A : Type 0} → A → Key → (Data → Option A) → Option Data → Result A RunFault
field_or other key shape None = Ok other
field_or other key shape (Some d) = or_fault (faults.BadField key) (shape d)

-- whether the text is one of the keys
abbrev pub is_key_of : List Key → List ℕ → Bool
is_key_of known text = list_any (λ key. bytes_eq text (name_of key)) known

abbrev pub keys_of : Members → List (List ℕ)
keys_of no_members = []
keys_of (member k d ms) = k ∷ keys_of ms

-- the first key of the object that isn't one of these
abbrev pub other_key : List Key → Members → Option (List ℕ)
other_key known ms = find (λ k. not (is_key_of known k)) (keys_of ms)
