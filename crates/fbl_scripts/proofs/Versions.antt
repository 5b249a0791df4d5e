-- What an input of another version than 2 asks for: what it did when version 1 was the only one.
use Rattle.fbl_scripts.proofs.Common.{◌≡◌, ℕ, List, arith, refl, ◌&&◌, cond, Option, Some, None, option_and_then, Result, Ok, Err, Data, RunFault, ◌>>=◌, or_fault, count_shape, field, name_of, number_within, value_of_input}
use Rattle.std.proofs.lemmas.Bool.Decides.{nat_tests}
use Rattle.std.specs.Prelude.{nat_le}
use Rattle.serde_json.specs.Find.{get, as_number, as_object, as_u64}
use Rattle.fbl_input.specs.declared.key.Key.TheVariants as keys
use Rattle.fbl_input.specs.declared.fault.RunFault.TheVariants as faults
use Rattle.fbl_input.specs.declared.command_form.Version.{Version}
use Rattle.fbl_input.specs.declared.command_form.Version.TheVariants.{First}
use Rattle.fbl_input.specs.Forms.{version_from, version_shape}
use Rattle.fbl_scripts.specs.Scripts.{Outline, IsOfVersion, first_outline_of, first_outline_of_input, outline_by, outline_of, outline_of_input, command_shape}

-- by the number at the key, if there is one
by_number : (e : RunFault) (rest : Version → Result Outline RunFault) (u : Option ℕ) → ¬ (or_fault e (option_and_then (λ n. cond (nat_le 0 n && nat_le n 4294967295) (Some n) None) u) ≡ Ok 2)
    → (or_fault e (option_and_then version_from (option_and_then (λ n. cond (nat_le 0 n && nat_le n 4294967295) (Some n) None) u)) >>= rest)
    ≡ (or_fault e (option_and_then (λ n. cond (nat_le 1 n && nat_le n 1) (Some n) None) u) >>= λ _. rest First)
by_number e rest None h = refl
by_number e rest (Some n) h = grind (arith, nat_tests, h)

-- by whether there is such a value
of_found : (e : RunFault) (found : Option Data) (rest : Version → Result Outline RunFault) → ¬ (or_fault e (option_and_then count_shape found) ≡ Ok 2)
    → (or_fault e (option_and_then version_shape found) >>= rest) ≡ (or_fault e (option_and_then (number_within 1 1) found) >>= λ _. rest First)
of_found e None rest h = refl
of_found e (Some v) rest h = by_number e rest (option_and_then as_u64 (as_number v)) h

of_data : (d : Data) → ¬ (field keys.Version count_shape d ≡ Ok 2) → outline_of d ≡ first_outline_of d
unfolding outline_of first_outline_of
of_data d h = λ i. or_fault faults.NotObject (as_object d) >>= λ ms. of_found (faults.BadField keys.Version) (get (name_of keys.Version) d) (λ version. outline_by (command_shape version) d) h i

of_read : (read : Result Data RunFault) → ¬ ((read >>= field keys.Version count_shape) ≡ Ok 2) → (read >>= outline_of) ≡ (read >>= first_outline_of)
of_read (Err e) h = refl
of_read (Ok d) h = of_data d h

pub not_second : (input : List ℕ) → ¬ (IsOfVersion 2 input) → outline_of_input input ≡ first_outline_of_input input
not_second input h = of_read (value_of_input input) h

one_version : (r : Result ℕ RunFault) → r ≡ Ok 1 → ¬ (r ≡ Ok 2)
one_version r p q = cc

pub first_version : (input : List ℕ) → IsOfVersion 1 input → outline_of_input input ≡ first_outline_of_input input
first_version input h = not_second input (one_version _ h)
