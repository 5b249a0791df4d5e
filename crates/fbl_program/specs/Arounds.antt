-- The entry around which a run is drawn, as a command line names it.
use Rattle.std.specs.Prelude.{◌≡◌, ◌≢◌, ◌<◌, ℕ, List, Option, Some, None, Result, Ok, Err}
use Rattle.std.specs.Borrow.{Bor}
use Rattle.fbl_runs.specs.Sources.{IsSpotText}
use Rattle.fbl_input.specs.declared.output.OutputFault.TheVariants.{Memory}
use Rattle.fbl_runs.specs.declared.sources.Sources.{Sources}
use Rattle.fbl_program.specs.declared.fault.AnswerFault.{AnswerFault}
use Rattle.fbl_program.specs.declared.fault.AnswerFault.TheVariants.{Output, Refused}

-- of so many entries the one at the place stands where the words say; or none does
abbrev pub IsPlaceNamed : Sources → ℕ → List ℕ → Option ℕ → Type 0
IsPlaceNamed sources count words (Some place) = (place < count) × IsSpotText sources place words
IsPlaceNamed sources count words None = (place : ℕ) → place < count → (spot : List ℕ) × IsSpotText sources place spot × (spot ≢ words)

-- the place around which a picture is asked for, if it is for that
abbrev pub IsAround : Sources → ℕ → Option (Bor (List ℕ)) → Option ℕ → Type 0
IsAround sources count None around = around ≡ None
IsAround sources count (Some words) None = ⊥
IsAround sources count (Some words) (Some place) = IsPlaceNamed sources count words.now (Some place)

-- one is asked for around an entry, and none stands there
abbrev pub IsMissing : Sources → ℕ → Option (Bor (List ℕ)) → Type 0
IsMissing sources count None = ⊥
IsMissing sources count (Some words) = IsPlaceNamed sources count words.now None

-- one of the two holds, or memory ran out
abbrev pub IsAsked : Sources → ℕ → Option (Bor (List ℕ)) → Result (Option ℕ) AnswerFault → Type 0
IsAsked sources count words (Ok around) = IsAround sources count words around
IsAsked sources count words (Err Refused) = IsMissing sources count words
IsAsked sources count words (Err (Output fault)) = fault ≡ Memory
