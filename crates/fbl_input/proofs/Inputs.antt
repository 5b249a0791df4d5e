-- What is done over an input that a reader has.
use Rattle.fbl_input.proofs.Common.{◌≡◌, ℕ, inl, inr, List, Option, Some, None, Result, Ok, Err, IfSome, IsErrAnd, RunFault, OutputFault, run_result, OverInput}
use Rattle.fbl_input.proofs.Outputs.{keeps_itself}

module _ {X A : Type 0} (IsInput : List ℕ → X → Type 0) (IsFault : List ℕ → RunFault → Type 0) (Does : X → Result A OutputFault → Type 0) (before after : Option (List ℕ)) where
  abbrev IsOver : Result A RunFault → List ℕ → Type 0
  IsOver result input = OverInput (IsInput input) (IsFault input) Does before after result

  -- what is done with the thing that the input is
  pub over_input : (known : Option (List ℕ)) (x : X) (done : Result A OutputFault) (result : Result A RunFault) → IfSome known (λ input. IsInput input x) → Does x done
      → result ≡ run_result done → IfSome known (IsOver result)
  over_input None x done result is does same = tt
  over_input (Some input) x done result is does same = inl (x, done, is, does, same)

-- a fault of the input, with nothing written
pub over_fault : {X A : Type 0} (IsInput : List ℕ → X → Type 0) (IsFault : List ℕ → RunFault → Type 0) (Does : X → Result A OutputFault → Type 0) (before known : Option (List ℕ))
    (fault : RunFault) (result : Result A RunFault) → IfSome known (λ input. IsFault input fault) → IsErrAnd result (λ e. e ≡ fault)
    → IfSome known (λ input. OverInput (IsInput input) (IsFault input) Does before before result)
over_fault IsInput IsFault Does before None fault result is same = tt
over_fault IsInput IsFault Does before (Some input) fault (Ok x) is same = absurd same
over_fault IsInput IsFault Does before (Some input) fault (Err e) is same = inr (rw same (is, keeps_itself before))
