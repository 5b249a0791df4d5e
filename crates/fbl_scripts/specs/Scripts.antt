-- The script that an input is, or its first fault.
use Rattle.std.specs.Prelude.{◌≡◌, ℕ, ◌+◌, ◌==◌, List, [], ◌∷◌, ◌++◌, Option, Some, None, is_some, option_and_then, option_map, Result, Ok, Err, codes, if◌then◌else◌}
use Rattle.serde_json.specs.Data.{Data}
use Rattle.serde_json.specs.Find.{get, as_object}
use Rattle.fbl_trace.specs.declared.config.ConfigRefusal.TheVariants as config
use Rattle.fbl_trace.specs.declared.strike.Strike as planned
use Rattle.fbl_trace.specs.declared.trace.Note.{Note}
use Rattle.fbl_trace.specs.Configs.{Settings, IsConfig, RefusesConfig}
use Rattle.fbl_trace.specs.Steps.{has_few_hops}
use Rattle.fbl_input.specs.declared.key.Key.TheVariants as keys
use Rattle.fbl_input.specs.declared.fault.RunFault.{RunFault}
use Rattle.fbl_input.specs.declared.fault.RunFault.TheVariants as faults
use Rattle.fbl_input.specs.declared.command_form.CommandForm.{CommandForm}
use Rattle.fbl_input.specs.declared.command_form.CommandForm.TheVariants as forms
use Rattle.fbl_input.specs.declared.command_form.Version.{Version}
use Rattle.fbl_input.specs.declared.command_form.Version.TheVariants.{First}
use Rattle.fbl_input.specs.Forms.{is_of, named_form, version_shape}
use Rattle.fbl_runs.specs.declared.fault.LogBreach.{LogBreach}
use Rattle.fbl_runs.specs.declared.fault.LogBreach.TheVariants.{Trace}
use Rattle.fbl_trace.specs.Breaches.{IsConfigBreach}
use Rattle.fbl_scripts.specs.declared.script.BehaviourName.{BehaviourName}
use Rattle.fbl_scripts.specs.declared.script.BehaviourName.TheVariants.{Relay, Mix}
use Rattle.fbl_scripts.specs.declared.script.Command.{Command}
use Rattle.fbl_scripts.specs.declared.script.Command.TheVariants.{Deliver, States, Report, Strike, Recover, Dump, Run, Checkpoint}
use Rattle.fbl_scripts.specs.declared.script.Script.{Script}
use Rattle.fbl_scripts.specs.declared.script_reader.Request.{Request}
use Rattle.fbl_input.specs.declared.input_fault.InputFault.{InputFault}
use Rattle.fbl_input.specs.declared.input_kind.InputKind.TheVariants as kinds
use Rattle.fbl_input.specs.Items.{start_shape, unknown_key}
use Rattle.fbl_input.specs.Faults.{IsFaultOf, IsFirstFault}
use Rattle.fbl_input.specs.Shapes.{◌>>=◌, or_fault, number_within, byte_shape, count_shape, member_shape, as_list, is_text, list_of, set_shape, name_of, field, field_or, value_of_input}

-- what a script asks for
pub record Outline : Type 0 where
  pub behaviour : BehaviourName
  pub config : Settings Note
  pub commands : List Command

abbrev pub outline : Script → Outline
outline s = record { behaviour = s.behaviour; config = s.config; commands = s.commands.items }

-- ---- shapes

-- the word by which a script names a behaviour
abbrev pub behaviour_word : BehaviourName → List ℕ
behaviour_word Relay = codes "relay"
behaviour_word Mix = codes "mix"

abbrev pub behaviour_shape : Data → Option BehaviourName
behaviour_shape d = if is_text (behaviour_word Relay) d then Some Relay else (if is_text (behaviour_word Mix) d then Some Mix else None)

-- `[at, set]`
abbrev pub planned_from : List Data → Option planned.Strike
planned_from (at ∷ members ∷ []) = option_and_then (λ n. option_map (λ s. record { at = n; set = s }) (set_shape members)) (count_shape at)
planned_from _ = None

abbrev pub planned_shape : Data → Option planned.Strike
planned_shape d = option_and_then planned_from (as_list d)

-- `to, from` of a delivery
abbrev pub delivery_from : Data → Data → Option Command
delivery_from to from = option_and_then (λ p. option_map (λ q. Deliver p q) (member_shape from)) (member_shape to)

-- the command of the form, by what stands behind its name
abbrev pub command_from : CommandForm → List Data → Option Command
command_from forms.Deliver (to ∷ from ∷ []) = delivery_from to from
command_from forms.States [] = Some States
command_from forms.Report [] = Some Report
command_from forms.Strike (members ∷ []) = option_map Strike (set_shape members)
command_from forms.Recover [] = Some Recover
command_from forms.Dump (members ∷ []) = option_map Dump (set_shape members)
command_from forms.Run (plan ∷ []) = option_map Run (list_of planned_shape plan)
command_from forms.Checkpoint (member ∷ []) = option_map Checkpoint (member_shape member)
command_from form arguments = None

-- the form that the name is of, where a script of this version may have it
abbrev pub form_at : Version → Data → Option CommandForm
form_at version name = option_and_then (λ form. if is_of version form then Some form else None) (named_form name)

-- a command of a script of this version: `[name, argument, ..]`
abbrev pub command_shape : Version → Data → Option Command
command_shape version d = option_and_then by_name (as_list d)
  where
    by_name : List Data → Option Command
    by_name [] = None
    by_name (name ∷ arguments) = option_and_then (λ form. command_from form arguments) (form_at version name)

-- ---- the script

-- the commands of a shape, from a place on: the first of another shape, or at place 1024, is the fault
abbrev pub commands_from : (Data → Option Command) → ℕ → List Data → Result (List Command) RunFault
commands_from shape place [] = Ok []
commands_from shape place (d ∷ ds) =
    (if place == 1024 then Err (faults.BadCommand place) else or_fault (faults.BadCommand place) (shape d)) >>= λ c.
    commands_from shape (place + 1) ds >>= λ cs.
    Ok (c ∷ cs)

-- what an object asks for as a script once its version is read, where commands have this shape, or its first fault
unfoldable pub outline_by : (Data → Option Command) → Data → Result Outline RunFault
outline_by shape d = do
  members ← field keys.Members byte_shape d
  f ← field keys.F byte_shape d
  behaviour ← field keys.Behaviour behaviour_shape d
  limit ← field_or 8192 keys.Limit count_shape (get (name_of keys.Limit) d)
  starts ← field keys.Start (list_of start_shape) d
  listed ← field keys.Commands as_list d
  commands ← commands_from shape 0 listed
  if is_some (unknown_key kinds.Script d) then Err faults.UnknownKey else Ok (record { behaviour = behaviour; config = record { members = members; f = f; limit = limit; starts = starts }; commands = commands })

-- what a value asks for as a script, or its first fault
unfoldable pub outline_of : Data → Result Outline RunFault
outline_of d = do
  object ← or_fault faults.NotObject (as_object d)
  version ← field keys.Version version_shape d
  outline_by (command_shape version) d

-- what a value asks for as a script where version 1 is the only one, or its first fault
unfoldable pub first_outline_of : Data → Result Outline RunFault
first_outline_of d = do
  object ← or_fault faults.NotObject (as_object d)
  version ← field keys.Version (number_within 1 1) d
  outline_by (command_shape First) d

-- what an input asks for as a script, or its first fault
abbrev pub outline_of_input : List ℕ → Result Outline RunFault
outline_of_input input = value_of_input input >>= outline_of

-- what an input asks for as a script where version 1 is the only one, or its first fault
abbrev pub first_outline_of_input : List ℕ → Result Outline RunFault
first_outline_of_input input = value_of_input input >>= first_outline_of

-- the input is JSON with this number as its version
abbrev pub IsOfVersion : ℕ → List ℕ → Type 0
IsOfVersion n input = (value_of_input input >>= field keys.Version count_shape) ≡ Ok n

-- the input is this script, and there is such a group
abbrev pub IsScriptOf : List ℕ → Outline → Type 0
IsScriptOf input s = (outline_of_input input ≡ Ok s) × IsConfig has_few_hops s.config

-- the fault is a configuration's refusal of its parameters
abbrev pub RefusesScript : Outline → RunFault → Type 0
RefusesScript s (faults.Config config.Memory) = ⊥
RefusesScript s (faults.Config e) = RefusesConfig has_few_hops s.config e
RefusesScript s e = ⊥

-- the fault is the input's first as a script
abbrev pub IsScriptFault : List ℕ → RunFault → Type 0
IsScriptFault input = IsFirstFault (outline_of_input input) RefusesScript

-- which rule of a configuration is broken
abbrev pub BreaksScript : Outline → RunFault → Option LogBreach → Type 0
BreaksScript s (faults.Config refusal) (Some (Trace breach)) = IsConfigBreach s.config refusal breach
BreaksScript s (faults.Config refusal) breach = ⊥
BreaksScript s fault breach = Unit {0}

-- the fault is the input's first, read as a script, or one of reading or of memory
abbrev pub IsNoScript : List ℕ → InputFault → Type 0
IsNoScript input fault = (fault.kind ≡ kinds.Script) × IsFaultOf (outline_of_input input) RefusesScript BreaksScript input fault

-- what is asked for as a script, before it is known whether there is such a group
abbrev pub request_outline : Request → Outline
request_outline r = record { behaviour = r.behaviour; config = record { members = r.members; f = r.f; limit = r.limit; starts = r.starts.items }; commands = r.commands.items }

-- the input asks for this, and has these bytes
abbrev pub IsRequestOf : List ℕ → Request → List ℕ → Type 0
IsRequestOf input request bytes = (outline_of_input input ≡ Ok (request_outline request)) × (bytes ≡ input)

-- a list that was read after a front that was read before
abbrev pub with_front : {A : Type 0} → List A → Result (List A) RunFault → Result (List A) RunFault
with_front front read = read >>= λ rest. Ok (front ++ rest)

-- ---- laws of the versions

-- an input of version 1 reads as it did when version 1 was the only one
abbrev pub FirstVersionLaw : Type 0
FirstVersionLaw = (input : List ℕ) → IsOfVersion 1 input → outline_of_input input ≡ first_outline_of_input input

-- so does every input that isn't of version 2
abbrev pub OtherVersionsLaw : Type 0
OtherVersionsLaw = (input : List ℕ) → ¬ (IsOfVersion 2 input) → outline_of_input input ≡ first_outline_of_input input
