-- The first fault of an input, and what an answer leaves in the writer.
use Rattle.std.specs.Prelude.{◌≡◌, ℕ, ◌+◌, ◌<◌, ◌≤◌, ◌⊎◌, List, length, take, Option, IfSome, Result, Ok, Err}
use Rattle.std.specs.Io.KnownBytes.{Appends, Consumes, Keeps}
use Rattle.std.specs.Result.{IsErrAnd}
use Rattle.fbl_input.specs.declared.fault.RunFault.{RunFault}
use Rattle.fbl_input.specs.declared.fault.RunFault.TheVariants as faults
use Rattle.fbl_input.specs.declared.input_fault.InputFault.{InputFault}
use Rattle.fbl_input.specs.declared.output.OutputFault.{OutputFault}
use Rattle.fbl_input.specs.declared.output.OutputFault.TheVariants as outputs
use Rattle.fbl_input.specs.Shapes.{longest}
use Rattle.fbl_trace.specs.declared.dump.refusal.DumpRefusal.{DumpRefusal}
use Rattle.fbl_trace.specs.declared.dump.refusal.DumpRefusal.TheVariants as dump
use Rattle.fbl_runs.specs.declared.fault.LogBreach.{LogBreach}
use Rattle.fbl_trace.specs.declared.config.ConfigRefusal.{ConfigRefusal}
use Rattle.fbl_trace.specs.declared.config.ConfigRefusal.TheVariants as config

-- ---- inputs

-- why the bytes of an input could not be had
abbrev pub IsUnread : Option (List ℕ) → RunFault → Type 0
IsUnread known faults.Read = Unit {0}
IsUnread known faults.TooLong = IfSome known (λ input. longest < length input)
IsUnread known faults.Memory = Unit {0}
IsUnread known fault = ⊥

-- a reader is read at most one byte past the longest input
abbrev pub StopsReading : Option (List ℕ) → Option (List ℕ) → Type 0
StopsReading before after = (taken : List ℕ) × Consumes before after taken × (length taken ≤ longest + 1)

-- a refusal of parameters, or of a recorded run, as the fault of an input
abbrev pub config_fault : ConfigRefusal → RunFault
config_fault config.Memory = faults.Memory
config_fault e = faults.Config e

abbrev pub dump_fault : DumpRefusal → RunFault
dump_fault dump.Memory = faults.Memory
dump_fault e = faults.Dump e

-- the fault is the first of an input that is asked for this, where what it gives may be refused; a read may fail, and memory run
-- out, whatever the input is
abbrev pub IsFirstFault : {A : Type 0} → Result A RunFault → (A → RunFault → Type 0) → RunFault → Type 0
IsFirstFault asked Refuses faults.Read = Unit {0}
IsFirstFault asked Refuses faults.Memory = Unit {0}
IsFirstFault {A} asked Refuses e = (asked ≡ Err e) ⊎ ((a : A) × (asked ≡ Ok a) × Refuses a e)

-- these are the bytes in which the fault was found, where it is not one of reading or of memory
abbrev pub HasInput : RunFault → List ℕ → List ℕ → Type 0
HasInput faults.Read bytes input = Unit {0}
HasInput faults.TooLong bytes input = Unit {0}
HasInput faults.Memory bytes input = Unit {0}
HasInput fault bytes input = bytes ≡ input

-- the fault of a reader is the first of the input, has its bytes, and says why a rule is broken, where the fault is that one is
pub record IsFaultOf {A : Type 0} (asked : Result A RunFault) (Refuses : A → RunFault → Type 0) (Breaks : A → RunFault → Option LogBreach → Type 0) (input : List ℕ) (fault : InputFault) : Type 0 where
  pub first : IsFirstFault asked Refuses fault.fault
  pub breach : (a : A) → asked ≡ Ok a → Breaks a fault.fault fault.breach
  pub bytes : HasInput fault.fault fault.input.items input

-- ---- answers

abbrev pub output_fault : OutputFault → RunFault
output_fault outputs.Memory = faults.Memory
output_fault outputs.Write = faults.Write

-- the same answer, where other faults may come
abbrev pub run_result : {A : Type 0} → Result A OutputFault → Result A RunFault
run_result (Ok x) = Ok x
run_result (Err e) = Err (output_fault e)

-- a prefix of the bytes, without their end
abbrev pub PutsFront : Option (List ℕ) → Option (List ℕ) → List ℕ → Type 0
PutsFront before after bytes = (n : ℕ) × (n < length bytes) × Appends before after (take n bytes)

-- what an answer with a text leaves in the writer, where a relation says which answers are right, and with which texts
abbrev pub PutsOut : {A : Type 0} → (A → List ℕ → Type 0) → Option (List ℕ) → Option (List ℕ) → Result A OutputFault → Type 0
-- the whole text of the answer
PutsOut IsRight before after (Ok x) = (text : List ℕ) × IsRight x text × Appends before after text
-- a prefix of the text of a right answer, without its end
PutsOut {A} IsRight before after (Err outputs.Write) = (x : A) × (text : List ℕ) × (part : ℕ) × IsRight x text × (part < length text) × Appends before after (take part text)
-- nothing
PutsOut IsRight before after (Err outputs.Memory) = Keeps before after

-- what is done over an input: it is such a thing, and this is done with it, or it has such a fault, and nothing is written
abbrev pub OverInput : {X A : Type 0} → (X → Type 0) → (RunFault → Type 0) → (X → Result A OutputFault → Type 0) → Option (List ℕ) → Option (List ℕ) → Result A RunFault → Type 0
OverInput {X} {A} IsInput IsFault Does before after result =
    ((x : X) × (done : Result A OutputFault) × IsInput x × Does x done × (result ≡ run_result done))
    ⊎ IsErrAnd result (λ fault. IsFault fault × Keeps before after)
