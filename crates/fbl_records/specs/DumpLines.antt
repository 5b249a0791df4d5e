-- A dump as a JSON value, and as a line.
use Rattle.std.specs.Prelude.{◌≡◌, ℕ, ◌≤◌, length, Option, Some, Ok, List, [], ◌∷◌, ◌++◌, map, codes, String, string_bytes}
use Rattle.std.specs.declared.alloc.Global.{Global}
use Rattle.json.specs.Token.{Token}
use Rattle.json.specs.Tree.{depth, items_depth, json_tokens}
use Rattle.json.specs.Written.{Written}
use Rattle.serde_json.specs.Data.{Data, number, unsigned, string, array, object, member, no_members}
use Rattle.serde_json.specs.View.{items_of}
use Rattle.serde_json.specs.Read.{of_items, of_json}
use Rattle.serde_json.specs.Written.{compact_text, items_outline, outline}
use Rattle.fbl_trace.specs.declared.trace.Determinant.{Determinant}
use Rattle.fbl_trace.specs.declared.trace.Mark.{Mark}
use Rattle.fbl_trace.specs.declared.trace.Mark.TheVariants.{Send, Receipt}
use Rattle.fbl_runs.specs.declared.entry.Entry.{Entry}
use Rattle.fbl_runs.specs.declared.entry.Entry.TheVariants.{Event, Hold, LaterReceipt, Restart, Store, Tell, Told}
use Rattle.fbl_trace.specs.Dumps.{Parts}
use Rattle.fbl_trace.specs.MemberSets.{member_list}
use Rattle.fbl_input.specs.declared.key.Key.TheVariants as keys
use Rattle.fbl_input.specs.Shapes.{all_shaped, json_of, longest, name_of}
use Rattle.fbl_records.specs.Dumps.{parts_of_data, parts_of_input}

abbrev pub number_data : ℕ → Data
number_data n = number (unsigned n)

abbrev pub list_data : List Data → Data
list_data ds = array (items_of ds)

-- `[name, member, from, ssn, to, rsn]`
abbrev pub record_data : List ℕ → ℕ → Determinant → Data
record_data name q d = list_data (string name ∷ number_data q ∷ number_data d.from ∷ number_data d.ssn ∷ number_data d.to ∷ number_data d.rsn ∷ [])

-- `["send", from, ssn, to]`, `["receipt", to, rsn, from, ssn]`, `["hold", holder, from, ssn, to, rsn]`,
-- `["store", member, from, ssn, to, rsn]`, `["tell", from, to, id]`, `["told", to, from, id]`, `["receipt", to, rsn, from, ssn, life]` or
-- `["restart", member, life, receipts, sends]`
abbrev pub entry_data : Entry → Data
entry_data (Event (Send from ssn to)) = list_data (string (codes "send") ∷ number_data from ∷ number_data ssn ∷ number_data to ∷ [])
entry_data (Event (Receipt to rsn from ssn)) =
    list_data (string (codes "receipt") ∷ number_data to ∷ number_data rsn ∷ number_data from ∷ number_data ssn ∷ [])
entry_data (Hold holder d) = record_data (codes "hold") holder d
entry_data (Store q d) = record_data (codes "store") q d
entry_data (Tell m) = list_data (string (codes "tell") ∷ number_data m.from ∷ number_data m.to ∷ number_data m.id ∷ [])
entry_data (Told m) = list_data (string (codes "told") ∷ number_data m.to ∷ number_data m.from ∷ number_data m.id ∷ [])
entry_data (LaterReceipt d life) =
    list_data (string (codes "receipt") ∷ number_data d.to ∷ number_data d.rsn ∷ number_data d.from ∷ number_data d.ssn ∷ number_data life ∷ [])
entry_data (Restart r) =
    list_data (string (codes "restart") ∷ number_data r.member ∷ number_data r.life ∷ number_data r.receipts ∷ number_data r.sends ∷ [])

abbrev pub event_data : Mark → Data
event_data e = entry_data (Event e)

-- `[holder, from, ssn, to, rsn]`
abbrev pub pair_data : ℕ × Determinant → Data
pair_data h = list_data (number_data h.0 ∷ number_data h.1.from ∷ number_data h.1.ssn ∷ number_data h.1.to ∷ number_data h.1.rsn ∷ [])

-- an object with the keys of a dump, in the order of their letters
abbrev pub dump_object : ℕ → ℕ → Data → Data → Data → Data
dump_object members f events held strike =
    object (member (name_of keys.Events) events
    (member (name_of keys.F) (number_data f)
    (member (name_of keys.Held) held
    (member (name_of keys.Members) (number_data members)
    (member (name_of keys.Strike) strike no_members)))))

-- the dump as an object, its strike set rising
unfoldable pub dump_data : Parts → Data
dump_data dump = dump_object dump.members dump.f (list_data (map event_data dump.events)) (list_data (map pair_data dump.held)) (list_data (map number_data (member_list dump.strike)))

-- the dump with no space, on one line
abbrev pub dump_line : Parts → List ℕ
dump_line dump = compact_text (dump_data dump) ++ 10 ∷ []

-- the line, where it is no longer than an input may be, is read as the same dump
abbrev pub ReadsBack : Parts → Type 0
ReadsBack dump = length (dump_line dump) ≤ longest → parts_of_input (dump_line dump) ≡ Ok dump

-- ---- for private clauses: what is written is read back

-- what stood before stays, and these tokens are appended
pub record AppendsTokens (ts : List Token) (old new : Written) : Type 0 where
  pub before : new.before ≡ old.before
  pub tokens : new.tokens ≡ old.tokens ++ ts

-- the tokens of the value are appended
abbrev pub Appends : Data → Written → Written → Type 0
Appends d = AppendsTokens (json_tokens (outline d))

-- the value is read from its text, and nests to this depth at most
abbrev pub IsSpelled : ℕ → Data → Type 0
IsSpelled n d = (of_json (outline d) ≡ Some d) × (depth (outline d) ≤ n)

-- the item is what is read from the value that it is written as
abbrev pub IsReadBack : {T : Type 0} → (T → Data) → (Data → Option T) → ℕ → T → Type 0
IsReadBack form shape n x = (shape (form x) ≡ Some x) × IsSpelled n (form x)

-- the items are those that are read from the values that they are written as
abbrev pub AreReadBack : {T : Type 0} → (T → Data) → (Data → Option T) → ℕ → List T → Type 0
AreReadBack form shape n xs =
    let ds = items_of (map form xs) in
    (all_shaped shape (map form xs) ≡ Some xs) × (of_items (items_outline ds) ≡ Some ds) × (items_depth (items_outline ds) ≤ n)

-- the dump is what is read from the value that it is written as
abbrev pub IsDumpRead : Parts → Type 0
IsDumpRead dump = (parts_of_data (dump_data dump) ≡ Ok dump) × IsSpelled 3 (dump_data dump)

-- the text is the value with no space, on one line, and is read as that value
abbrev pub IsLineOf : Data → String Global → Type 0
IsLineOf d text = (string_bytes text ≡ compact_text d ++ 10 ∷ []) × (json_of (compact_text d ++ 10 ∷ []) ≡ Some d)
