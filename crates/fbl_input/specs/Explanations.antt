-- What explains a fault of an input: what stands at its place, as it is written there, and what is wanted.
use Rattle.std.specs.Prelude.{◌≡◌, ◌≢◌, ℕ, ◌<◌, ◌≤◌, List, Bool, true, false, Option, Some, None, is_some, option_and_then, option_map, String, string_bytes}
use Rattle.std.specs.Str.{IsUtf8}
use Rattle.std.specs.declared.alloc.Global.{Global}
use Rattle.json.specs.Find as json
use Rattle.json.specs.Json.{Json, document}
use Rattle.json.specs.Print.{print}
use Rattle.json.specs.Tree.{json_tokens}
use Rattle.serde_json.specs.Data.{Data}
use Rattle.serde_json.specs.Find.{get}
use Rattle.fbl_input.specs.Forms.{IsWanted}
use Rattle.fbl_input.specs.Items.{bad_place, is_script, unknown_key}
use Rattle.fbl_input.specs.Shapes.{json_of, name_of}
use Rattle.fbl_input.specs.declared.key.Key.{Key}
use Rattle.fbl_input.specs.declared.key.Key.TheVariants as keys
use Rattle.fbl_input.specs.declared.fault.RunFault.{RunFault}
use Rattle.fbl_input.specs.declared.fault.RunFault.TheVariants as faults
use Rattle.fbl_input.specs.declared.input_kind.InputKind.{InputKind}
use Rattle.fbl_input.specs.declared.input_kind.InputKind.TheVariants as kinds
use Rattle.fbl_input.specs.declared.input_fault.InputFault.{InputFault}
use Rattle.fbl_input.specs.declared.explanation.Detail.{Detail}
use Rattle.fbl_input.specs.declared.explanation.Detail.TheVariants as details

-- the part of a JSON value at the key, and at the place there, or the value itself. Here a number is its text
abbrev pub at_key : Option Key → Json → Option Json
at_key None d = Some d
at_key (Some key) d = json.get (name_of key) d

abbrev pub at_place : Option ℕ → Json → Option Json
at_place None d = Some d
at_place (Some place) d = json.at place d

abbrev pub part_at : Option Key → Option ℕ → Json → Option Json
part_at key place d = option_and_then (at_place place) (at_key key d)

-- this is the text of that part of the input, without spaces; or there is no such part
abbrev pub IsWritten : List ℕ → Option Key → Option ℕ → Option (String Global) → Type 0
IsWritten input key place None = (d : Json) → IsUtf8 input → document input ≡ Some d → part_at key place d ≡ None
IsWritten input key place (Some text) =
    (d : Json) × (part : Json) × (document input ≡ Some d) × (part_at key place d ≡ Some part) × (string_bytes text ≡ print (json_tokens part))

-- the kind of an input that has the list of a script, commands, or that of a dump of either version, events, and not both
abbrev pub kind_of : Data → Option InputKind
kind_of d = by_lists (is_some (get (name_of keys.Commands) d)) (is_some (get (name_of keys.Events) d))
  where
    by_lists : Bool → Bool → Option InputKind
    by_lists true false = Some kinds.Script
    by_lists false true = Some kinds.Dump
    by_lists commands events = None

-- what is told of a bad field: nothing stands at the key, and this is the first unknown one; or what stands there, or at the first
-- place of the list there where something else than an item stands
abbrev pub IsFieldDetail : InputKind → List ℕ → Data → Key → Detail → Type 0
IsFieldDetail kind input d key (details.Missing named unknown) =
    (named ≡ key) × (get (name_of key) d ≡ None) × (option_map string_bytes unknown ≡ unknown_key kind d)
IsFieldDetail kind input d key (details.Wrong named place found) =
    (named ≡ key) × (is_some (get (name_of key) d) ≡ true) × (place ≡ bad_place kind key d) × IsWritten input (Some key) place found
IsFieldDetail kind input d key detail = ⊥

-- what is told of a bad command: there are too many; or what stands at its place, and the form that is wanted there
abbrev pub IsCommandDetail : List ℕ → Data → ℕ → Detail → Type 0
IsCommandDetail input d place details.TooManyCommands = 1024 ≤ place
IsCommandDetail input d place (details.WrongCommand named wanted found) =
    (named ≡ place) × (place < 1024) × IsWanted d place wanted × IsWritten input (Some keys.Commands) (Some place) found
IsCommandDetail input d place detail = ⊥

-- what is told of an unknown key: the first one
abbrev pub IsKeyDetail : InputKind → Data → Detail → Type 0
IsKeyDetail kind d (details.Unknown name) = unknown_key kind d ≡ Some (string_bytes name)
IsKeyDetail kind d details.Nothing = unknown_key kind d ≡ None
IsKeyDetail kind d detail = ⊥

-- what is told of a fault, by the value that the input is; other faults say all themselves
abbrev pub IsDetailOf : InputKind → List ℕ → Data → RunFault → Detail → Type 0
IsDetailOf kind input d fault (details.OtherKind other) = (kind_of d ≡ Some other) × (is_script other ≢ is_script kind)
IsDetailOf kind input d faults.NotObject (details.NotObject found) = IsWritten input None None found
IsDetailOf kind input d faults.NotObject detail = ⊥
IsDetailOf kind input d (faults.BadField key) detail = IsFieldDetail kind input d key detail
IsDetailOf kind input d (faults.BadCommand place) detail = IsCommandDetail input d place detail
IsDetailOf kind input d faults.UnknownKey detail = IsKeyDetail kind d detail
IsDetailOf kind input d fault details.Nothing = Unit {0}
IsDetailOf kind input d fault detail = ⊥

abbrev pub IsDetail : InputFault → Data → Detail → Type 0
IsDetail fault d detail = IsDetailOf fault.kind fault.input.items d fault.fault detail

-- what is told of a fault; that the input is no JSON is told of one that is none, and nothing of one that is too long
abbrev pub IsToldAs : RunFault → InputFault → Detail → Type 0
IsToldAs faults.TooLong fault detail = detail ≡ details.Nothing
IsToldAs e fault (details.NotJson error stop) = json_of fault.input.items ≡ None
IsToldAs e fault detail = (d : Data) × (json_of fault.input.items ≡ Some d) × IsDetailOf fault.kind fault.input.items d e detail

abbrev pub IsDetailIn : InputFault → Detail → Type 0
IsDetailIn fault detail = IsToldAs fault.fault fault detail

-- nothing explains a failed read or write, or want of memory
abbrev pub IsUnexplained : RunFault → Type 0
IsUnexplained faults.Read = Unit {0}
IsUnexplained faults.Write = Unit {0}
IsUnexplained faults.Memory = Unit {0}
IsUnexplained fault = ⊥
