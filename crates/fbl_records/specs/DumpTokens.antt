-- A dump in the tokens of its text: what comes next of it, by the grammar of `json` and by what `serde_json` makes of that.
use Rattle.std.specs.Prelude.{◌≡◌, ℕ, ◌≤◌, ◌<◌, List, ◌∷◌, length, Option, Some, None, Ok, option_and_then, option_map}
use Rattle.json.specs.Token.{Token}
use Rattle.json.specs.Json as json
use Rattle.serde_json.specs.Data.{Data, Members, unsigned, object}
use Rattle.serde_json.specs.Find.{get_member}
use Rattle.serde_json.specs.Read.{number_of, of_items, of_json, of_members}
use Rattle.serde_json.specs.View.{items_of}
use Rattle.fbl_trace.specs.Dumps.{parts_of}
use Rattle.fbl_trace.specs.declared.dump.raw_dump.RawDump.{RawDump}
use Rattle.fbl_input.specs.declared.input_kind.InputKind.TheVariants as kinds
use Rattle.fbl_input.specs.declared.key.Key.{Key}
use Rattle.fbl_input.specs.declared.key.Key.TheVariants as keys
use Rattle.fbl_input.specs.Items.{event_shape, known_keys, pair_shape}
use Rattle.fbl_input.specs.Shapes.{byte_shape, json_of, list_of, name_of, other_key, set_shape}
use Rattle.fbl_records.specs.DumpLines.{number_data}
use Rattle.fbl_records.specs.Dumps.{parts_of_data}
use Rattle.fbl_records.specs.declared.dump_tokens.Fields.{Fields}

-- the value comes next, in which lists and objects may nest so deep, and then these tokens
abbrev pub IsNext : ℕ → List Token → Data → List Token → Type 0
IsNext depth old d new = (j : json.Json) × (json.value depth old ≡ Some (j, new)) × (of_json j ≡ Some d) × (length new < length old)

-- the values come next, then the bracket that ends their list, and then these tokens
abbrev pub AreNext : ℕ → List Token → List Data → List Token → Type 0
AreNext depth old ds new =
    (js : json.Items) × ((n : ℕ) → length old ≤ n → json.items (json.value depth) n old ≡ Some (js, new)) × (of_items js ≡ Some (items_of ds)) × (length new < length old)

-- the members come next, behind those that are found, then the brace that ends their object, and then these tokens
abbrev pub AreMembersNext : ℕ → List Token → Members → Members → List Token → Type 0
AreMembersNext depth old found ms new =
    (js : json.Members) × ((n : ℕ) → length old ≤ n → json.members (json.value depth) n old ≡ Some (js, new)) × (of_members js found ≡ Some ms) × (length new < length old)

-- a number of the shape comes next
abbrev pub IsNumberNext : (Data → Option ℕ) → List Token → ℕ → List Token → Type 0
IsNumberNext shape old n new = (s : List ℕ) × (old ≡ Token.number s ∷ new) × (number_of s ≡ Some (unsigned n)) × (shape (number_data n) ≡ Some n)

-- a value of the shape comes next, which gives x
abbrev pub IsNextOf : {A : Type 0} → ℕ → (Data → Option A) → List Token → A → List Token → Type 0
IsNextOf depth shape old x new = (d : Data) × IsNext depth old d new × (shape d ≡ Some x)

-- what is read at the key of an object with these members
abbrev pub field_of : {A : Type 0} → Key → (Data → Option A) → Members → Option A
field_of key shape ms = option_and_then shape (get_member (name_of key) ms)

-- the fields are those of an object with these members, which has no others than those of a dump
pub record AreFieldsOf (ms : Members) (fields : Fields) : Type 0 where
  pub members : fields.members ≡ field_of keys.Members byte_shape ms
  pub f : fields.f ≡ field_of keys.F byte_shape ms
  pub events : option_map (λ v. v.items) fields.events ≡ field_of keys.Events (list_of event_shape) ms
  pub held : option_map (λ v. v.items) fields.held ≡ field_of keys.Held (list_of pair_shape) ms
  pub strike : fields.strike ≡ field_of keys.Strike set_shape ms
  pub version : get_member (name_of keys.Version) ms ≡ None
  pub others : other_key (known_keys kinds.Dump) ms ≡ None

-- the text spells an object with no version, and the parts are those of a dump that this gives
abbrev pub IsDumpText : List ℕ → RawDump → Type 0
IsDumpText text raw = (ms : Members) × (json_of text ≡ Some (object ms)) × (get_member (name_of keys.Version) ms ≡ None) × (parts_of_data (object ms) ≡ Ok (parts_of raw))
