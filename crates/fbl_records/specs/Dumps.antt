-- The dump that an input is, or its first fault.
use Rattle.std.specs.Prelude.{◌≡◌, ℕ, List, Option, Some, is_some, Result, Ok, Err, if◌then◌else◌}
use Rattle.serde_json.specs.Data.{Data}
use Rattle.serde_json.specs.Find.{as_object}
use Rattle.fbl_trace.specs.declared.dump.refusal.DumpRefusal.TheVariants as dump
use Rattle.fbl_trace.specs.Dumps.{Parts, IsDump, IsDumpBreach, RefusesDump}
use Rattle.fbl_input.specs.declared.key.Key.TheVariants as keys
use Rattle.fbl_input.specs.declared.fault.RunFault.{RunFault}
use Rattle.fbl_input.specs.declared.fault.RunFault.TheVariants as faults
use Rattle.fbl_input.specs.Items.{event_shape, pair_shape, unknown_key}
use Rattle.fbl_input.specs.declared.input_fault.InputFault.{InputFault}
use Rattle.fbl_input.specs.declared.input_kind.InputKind.TheVariants as kinds
use Rattle.fbl_input.specs.Faults.{IsFaultOf, IsFirstFault}
use Rattle.fbl_runs.specs.declared.fault.LogBreach.{LogBreach}
use Rattle.fbl_runs.specs.declared.fault.LogBreach.TheVariants.{Trace}
use Rattle.fbl_input.specs.Shapes.{◌>>=◌, or_fault, byte_shape, list_of, set_shape, field, value_of_input}

-- the parts of a dump that a value gives, or its first fault
unfoldable pub parts_of_data : Data → Result Parts RunFault
parts_of_data d = do
  object ← or_fault faults.NotObject (as_object d)
  members ← field keys.Members byte_shape d
  f ← field keys.F byte_shape d
  events ← field keys.Events (list_of event_shape) d
  held ← field keys.Held (list_of pair_shape) d
  strike ← field keys.Strike set_shape d
  if is_some (unknown_key kinds.Dump d) then Err faults.UnknownKey else Ok (record { members = members; f = f; events = events; held = held; strike = strike })

-- the parts of a dump that an input gives, or its first fault
abbrev pub parts_of_input : List ℕ → Result Parts RunFault
parts_of_input input = value_of_input input >>= parts_of_data

-- the input is this dump, which obeys the rules
abbrev pub IsDumpOf : List ℕ → Parts → Type 0
IsDumpOf input dump = (parts_of_input input ≡ Ok dump) × IsDump dump

-- the fault is a refusal of the dump
abbrev pub RefusesParts : Parts → RunFault → Type 0
RefusesParts parts (faults.Dump dump.Memory) = ⊥
RefusesParts parts (faults.Dump e) = RefusesDump parts e
RefusesParts parts e = ⊥

-- which rule of dumps is broken
abbrev pub BreaksParts : Parts → RunFault → Option LogBreach → Type 0
BreaksParts parts (faults.Dump e) (Some (Trace breach)) = IsDumpBreach parts e breach
BreaksParts parts (faults.Dump e) breach = ⊥
BreaksParts parts fault breach = Unit {0}

-- the fault is the input's first as a dump
abbrev pub IsDumpFault : List ℕ → RunFault → Type 0
IsDumpFault input = IsFirstFault (parts_of_input input) RefusesParts

-- the fault is the input's first, read as a dump, or one of reading or of memory
abbrev pub IsNoDump : List ℕ → InputFault → Type 0
IsNoDump input fault = (fault.kind ≡ kinds.Dump) × IsFaultOf (parts_of_input input) RefusesParts BreaksParts input fault
