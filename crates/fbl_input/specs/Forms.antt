-- The forms of the commands of scripts.
use Rattle.std.specs.Prelude.{◌≡◌, ℕ, ◌==◌, List, [], ◌∷◌, Bool, true, false, Option, Some, None, find, option_and_then, slice_get, unwrap_or, codes, if◌then◌else◌}
use Rattle.serde_json.specs.Data.{Data}
use Rattle.serde_json.specs.Find.{get}
use Rattle.fbl_input.specs.declared.command_form.CommandForm.{CommandForm}
use Rattle.fbl_input.specs.declared.command_form.CommandForm.TheVariants.{Deliver, States, Report, Strike, Recover, Dump, Run, Checkpoint}
use Rattle.fbl_input.specs.declared.command_form.Version.{Version}
use Rattle.fbl_input.specs.declared.command_form.Version.TheVariants.{First, Second}
use Rattle.fbl_input.specs.declared.command_form.Wanted.{Wanted}
use Rattle.fbl_input.specs.declared.key.Key.TheVariants as keys
use Rattle.fbl_input.specs.Shapes.{as_list, count_shape, is_text, name_of}

-- the version with this number
abbrev pub version_from : ℕ → Option Version
version_from n = if n == 1 then Some First else (if n == 2 then Some Second else None)

abbrev pub version_shape : Data → Option Version
version_shape d = option_and_then version_from (count_shape d)

abbrev pub form_name : CommandForm → List ℕ
form_name Deliver = codes "deliver"
form_name States = codes "states"
form_name Report = codes "report"
form_name Strike = codes "strike"
form_name Recover = codes "recover"
form_name Dump = codes "dump"
form_name Run = codes "run"
form_name Checkpoint = codes "checkpoint"

-- a script of the version may have such a command: version 1 has no checkpoint
abbrev pub is_of : Version → CommandForm → Bool
is_of First Checkpoint = false
is_of version form = true

abbrev pub all_forms : List CommandForm
all_forms = Deliver ∷ States ∷ Report ∷ Strike ∷ Recover ∷ Dump ∷ Run ∷ Checkpoint ∷ []

-- the form of the command that the value names
abbrev pub named_form : Data → Option CommandForm
named_form name = find (λ form. is_text (form_name form) name) all_forms

-- the form of the command that the list names, if it is one that names a command
abbrev pub form_of : Data → Option CommandForm
form_of d = option_and_then first_named (as_list d)
  where
    first_named : List Data → Option CommandForm
    first_named [] = None
    first_named (name ∷ rest) = named_form name

-- the version of the script that the value is: version 1 where it names none
abbrev pub version_of : Data → Version
version_of d = unwrap_or (option_and_then version_shape (get (name_of keys.Version) d)) First

-- the form of the command that stands at the place of the commands, if one is named there
abbrev pub form_wanted : Data → ℕ → Option CommandForm
form_wanted d place =
    option_and_then form_of (option_and_then (λ items. slice_get items place) (option_and_then as_list (get (name_of keys.Commands) d)))

-- what is wanted there
pub record IsWanted (d : Data) (place : ℕ) (wanted : Wanted) : Type 0 where
  pub form : wanted.form ≡ form_wanted d place
  pub version : wanted.version ≡ version_of d
