-- The fault of an input that could not be had, or that has not the form that is asked for, and what holds of its bytes.
use Rattle.fbl_input.proofs.Common.{RunFault, Data, Fails, IsFaultOf, IsUnread, InputFault, InputKind, json_of, longest, or_fault, value_of_input, ◌>>=◌}
use Rattle.std.proofs.Common.{Bool, false, true, ◌≡◌, ◌<◌, ◌∙◌, ℕ, ap, cond, inl, length, refl, sym, subst, List, None, Ok, Err, Result, Option, Some, IfErr, IfSome}
use Rattle.std.specs.Prelude.{Vec}
use Rattle.std.specs.declared.alloc.Global.{Global}
use Rattle.std.proofs.lemmas.Bool.{lt-ltb}
use Rattle.std.proofs.lemmas.Option.{IfSome_then}
use Rattle.std.specs.Result.{IsErrAnd}
use Rattle.fbl_input.specs.declared.fault.RunFault.TheVariants as faults
use Rattle.fbl_runs.specs.declared.fault.LogBreach.{LogBreach}

-- a fault that is passed on
pub is_passed : {A E : Type 0} (P : E → Type 0) (fault : E) (r : Result A E) → IsErrAnd r (λ e. e ≡ fault) → P fault → IfErr r P
is_passed P fault (Ok x) same h = tt
is_passed P fault (Err e) same h = subst P (sym same) h

-- what holds of the bytes that were read holds of the input
pub of_bytes : (P : List ℕ → Type 0) (known : Option (List ℕ)) (bytes read : List ℕ) → IfSome known (λ input. bytes ≡ input) → read ≡ bytes → P read → IfSome known P
of_bytes P None bytes read is same h = tt
of_bytes P (Some input) bytes read is same h = subst P (same ∙ is) h

pub too_long : (input : List ℕ) → longest < length input → value_of_input input ≡ Err faults.TooLong
too_long input is = ap (λ b. cond b (Err faults.TooLong) (or_fault faults.NotJson (json_of input))) (lt-ltb longest (length input) is)

module _ {A : Type 0} (asked : Data → Result A RunFault) (Refuses : A → RunFault → Type 0) (Breaks : A → RunFault → Option LogBreach → Type 0)
    (none : (a : A) (breach : Option LogBreach) → Breaks a faults.Read breach × Breaks a faults.Memory breach) where
  abbrev IsFault : List ℕ → InputFault → Type 0
  IsFault input fault = IsFaultOf (value_of_input input >>= asked) Refuses Breaks input fault

  unread_fault : (input : List ℕ) (fault : InputFault) (e : RunFault) → fault.fault ≡ e → IsUnread (Some input) e → IsFault input fault
  unread_fault input fault faults.Read same is = record { first = rw same tt; breach = λ a e. rw same (none a fault.breach).0; bytes = rw same tt }
  unread_fault input fault faults.Memory same is = record { first = rw same tt; breach = λ a e. rw same (none a fault.breach).1; bytes = rw same tt }
  unread_fault input fault faults.TooLong same is =
      let long : (value_of_input input >>= asked) ≡ Err faults.TooLong = ap (λ v. v >>= asked) (too_long input is) in
      record { first = rw same (inl long); breach = λ a e. absurd cc; bytes = rw same tt }
  unread_fault input fault e same is = absurd is

  -- that an input could not be had is its first fault
  pub unread : (known : Option (List ℕ)) (fault : InputFault) → IsUnread known fault.fault → IfSome known (λ input. IsFault input fault)
  unread None fault is = tt
  unread (Some input) fault is = unread_fault input fault fault.fault refl is

  -- that it has not the form is
  pub misread : (kind : InputKind) (input : List ℕ) (e : RunFault) (bytes : Vec ℕ Global) → Fails e (value_of_input input >>= asked) → bytes.items ≡ input
      → IsFault input (record { kind = kind; fault = e; breach = None; input = bytes })
  misread kind input faults.Read bytes fails same = record { first = tt; breach = λ a e. absurd cc; bytes = tt }
  misread kind input faults.Memory bytes fails same = record { first = tt; breach = λ a e. (none a None).1; bytes = tt }
  misread kind input faults.TooLong bytes fails same = record { first = inl fails; breach = λ a e. absurd cc; bytes = tt }
  misread kind input e bytes fails same = record { first = inl fails; breach = λ a is. absurd cc; bytes = same }

-- the fault of whatever input is known
pub refused_known : {A E : Type 0} (IsGiven : List ℕ → Type 0) (IsFault : List ℕ → E → Type 0) (known : Option (List ℕ)) (r : Result A E) → IfSome known IsGiven
    → ((input : List ℕ) → IsGiven input → IfErr r (IsFault input)) → IfErr r (λ e. IfSome known (λ input. IsFault input e))
refused_known IsGiven IsFault known (Ok x) given is = tt
refused_known IsGiven IsFault known (Err e) given is = IfSome_then known given is

-- the object has no key but its own
pub known_only : (b : Bool) → ◌≡◌ {A = Result (Unit {0}) RunFault} (cond b (Err faults.UnknownKey) (Ok tt)) (Ok tt) → b ≡ false
known_only false is = refl
known_only true is = absurd cc
