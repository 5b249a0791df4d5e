-- The fault of an input that records a run, where what it gives is refused.
use Rattle.std.proofs.Common.{◌≡◌, ◌<◌, ◌≤◌, ℕ, ◌∙◌, ◌⊎◌, ap, inl, inr, refl, sym, subst, List, Ok, Err, Result, Option, Some, None, IfSome, Bool, true, false}
use Rattle.std.specs.Prelude.{is_some, option_and_then, if◌then◌else◌}
use Rattle.serde_json.specs.Data.{object}
use Rattle.serde_json.specs.Find.{get}
use Rattle.std.specs.Prelude.{cond, length, nat_lt}
use Rattle.std.proofs.lemmas.Bool.{le-ltb, lt-ltb}
use Rattle.fbl_input.specs.Shapes.{Fails, json_of, longest, or_fault, value_of_input}
use Rattle.fbl_input.specs.Faults.{HasInput, IsFirstFault, IsUnread}
use Rattle.fbl_runs.specs.declared.fault.LogBreach.{LogBreach}
use Rattle.fbl_input.specs.declared.fault.RunFault.TheVariants as faults
use Rattle.fbl_input.specs.declared.key.Key.TheVariants as keys
use Rattle.fbl_input.specs.declared.input_kind.InputKind.TheVariants as kinds
use Rattle.std.specs.Prelude.{Vec}
use Rattle.std.specs.declared.alloc.Global.{Global}
use Rattle.fbl_trace.specs.Dumps.{IsDumpBreach, RefusesDump, parts_of}
use Rattle.fbl_trace.specs.declared.dump.raw_dump.RawDump.{RawDump}
use Rattle.fbl_trace.specs.declared.dump.refusal.DumpRefusal.{DumpRefusal}
use Rattle.fbl_trace.specs.declared.dump.refusal.DumpRefusal.TheVariants as dump
use Rattle.fbl_input.specs.Faults.{dump_fault}
use Rattle.fbl_runs.specs.declared.fault.LogBreach.TheVariants.{Trace}
use Rattle.fbl_trace.specs.declared.fault.Breach.{Breach}
use Rattle.fbl_runs.specs.Logs.{IsLogBreach, RefusesLog, RunParts}
use Rattle.fbl_records.proofs.Common.{Data, InputFault, InputKind, Parts, RunFault, name_of, parts_of_data, parts_of_input, ◌>>=◌}
use Rattle.fbl_records.specs.DumpTokens.{IsDumpText}
use Rattle.fbl_records.specs.Dumps.{IsNoDump, BreaksParts, RefusesParts}
use Rattle.fbl_records.specs.Logs.{HasKind, IsNotChecked, IsNotRecorded, IsRefusal, BreaksRecorded, RefusesNone, RefusesRecorded, kind_of, log_of_data, recorded_as, recorded_kind, recorded_of_data, recorded_of_input, value_meant}
use Rattle.fbl_records.specs.EventLines.{is_whole, json_text, lines_text, log_version}
use Rattle.fbl_records.proofs.EventLines.{meant_as_it_is, own_text}
use Rattle.fbl_runs.specs.declared.recording.Recording.{Recording}
use Rattle.fbl_runs.specs.declared.recording.Recording.TheVariants as parts

-- ---- the kind

of_log : (r : Result RunParts RunFault) (found : Recording) → (r >>= λ log. Ok (parts.Log log)) ≡ Ok found → kind_of found ≡ kinds.Log
of_log (Err e) found is = absurd cc
of_log (Ok log) (parts.Dump dump) is = absurd cc
of_log (Ok log) (parts.Log other) is = refl

of_dump : (r : Result Parts RunFault) (found : Recording) → (r >>= λ dump. Ok (parts.Dump dump)) ≡ Ok found → kind_of found ≡ kinds.Dump
of_dump (Err e) found is = absurd cc
of_dump (Ok dump) (parts.Dump other) is = refl
of_dump (Ok dump) (parts.Log log) is = absurd cc

by_version : (has_version : Bool) (d : Data) (found : Recording) → recorded_as (if has_version then kinds.Log else kinds.Dump) d ≡ Ok found
    → kind_of found ≡ (if has_version then kinds.Log else kinds.Dump)
by_version true d found is = of_log (log_of_data d) found is
by_version false d found is = of_dump (parts_of_data d) found is

kind_is : (input : List ℕ) (found : Recording) → recorded_of_input input ≡ Ok found → (d : Data) → value_meant input ≡ Ok d → kind_of found ≡ recorded_kind d
kind_is input found is d spelled = by_version (is_some (option_and_then log_version (get (name_of keys.Version) d))) d found (ap (λ v. v >>= recorded_of_data) (sym spelled) ∙ is)

has_kind : (e : RunFault) (input : List ℕ) (kind : InputKind) → ((d : Data) → value_meant input ≡ Ok d → kind ≡ recorded_kind d) → HasKind e input kind
has_kind faults.Read input kind is = tt
has_kind faults.Memory input kind is = tt
has_kind e input kind is = is

-- ---- refusals

has_bytes : (e : RunFault) (bytes input : List ℕ) → bytes ≡ input → HasInput e bytes input
has_bytes faults.Read bytes input same = tt
has_bytes faults.TooLong bytes input same = tt
has_bytes faults.Memory bytes input same = tt
has_bytes e bytes input same = same

first_is : {A : Type 0} (asked : Result A RunFault) (Refuses : A → RunFault → Type 0) (a : A) (e : RunFault) → asked ≡ Ok a → Refuses a e → IsFirstFault asked Refuses e
first_is asked Refuses a faults.Read is h = tt
first_is asked Refuses a faults.Memory is h = tt
first_is asked Refuses a e is h = inr (a, is, h)

pub dump_refusal : (found : Parts) (e : DumpRefusal) (breach : Breach) (bytes : Vec ℕ Global) → RefusesDump found e → IsDumpBreach found e breach
    → IsRefusal (parts.Dump found) bytes.items (record { kind = kinds.Dump; fault = dump_fault e; breach = Some (Trace breach); input = bytes })
dump_refusal found dump.Memory breach bytes refuses why = record { kind = refl; has = refl; refused = inl refl; why = tt }
dump_refusal found e breach bytes refuses why = record { kind = refl; has = refl; refused = inr refuses; why = why }

pub log_refusal : (log : RunParts) (e : DumpRefusal) (breach : LogBreach) (bytes : Vec ℕ Global) → RefusesLog log e → IsLogBreach log e breach
    → IsRefusal (parts.Log log) bytes.items (record { kind = kinds.Log; fault = dump_fault e; breach = Some breach; input = bytes })
log_refusal log dump.Memory breach bytes refuses why = record { kind = refl; has = refl; refused = inl refl; why = tt }
log_refusal log e breach bytes refuses why = record { kind = refl; has = refl; refused = inr refuses; why = why }

-- a refusal of what an input records is its first fault
pub refused : (input : List ℕ) (found : Recording) (bytes : List ℕ) (fault : InputFault) → recorded_of_input input ≡ Ok found → bytes ≡ json_text input
    → IsRefusal found bytes fault → IsNotChecked input fault
refused input found bytes fault is same refusal = (
  has_kind fault.fault input fault.kind (λ d spelled. refusal.kind ∙ kind_is input found is d spelled),
  record {
    first = by_refusal refusal.refused;
    breach = λ a i. (let other : found ≡ a = cc in subst (λ x. BreaksRecorded x fault.fault fault.breach) other refusal.why);
    bytes = has_bytes fault.fault fault.input.items (json_text input) (refusal.has ∙ same);
  },
)
  where
    by_refusal : (fault.fault ≡ faults.Memory) ⊎ RefusesRecorded found fault.fault → IsFirstFault (recorded_of_input input) RefusesRecorded fault.fault
    by_refusal (inl memory) = rw memory tt
    by_refusal (inr refuses) = first_is (recorded_of_input input) RefusesRecorded found fault.fault is refuses

-- so is that of a dump
pub dump_refused : (input : List ℕ) (dump : Parts) (bytes : List ℕ) (fault : InputFault) → parts_of_input input ≡ Ok dump → bytes ≡ input
    → IsRefusal (parts.Dump dump) bytes fault → IsNoDump input fault
dump_refused input dump bytes fault is same refusal = (
  refusal.kind,
  record {
    first = by_refusal refusal.refused;
    breach = λ a i. (let other : dump ≡ a = cc in subst (λ x. BreaksParts x fault.fault fault.breach) other refusal.why);
    bytes = has_bytes fault.fault fault.input.items input (refusal.has ∙ same);
  },
)
  where
    by_refusal : (fault.fault ≡ faults.Memory) ⊎ RefusesParts dump fault.fault → IsFirstFault (parts_of_input input) RefusesParts fault.fault
    by_refusal (inl memory) = rw memory tt
    by_refusal (inr refuses) = first_is (parts_of_input input) RefusesParts dump fault.fault is refuses

-- ---- faults of the form

form_first : (asked : Result Recording RunFault) (e : RunFault) → IsFirstFault asked RefusesNone e → IsFirstFault asked RefusesRecorded e
form_first asked faults.Read h = h
form_first asked faults.Memory h = h
form_first asked e (inl is) = inl is
form_first asked e (inr none) = absurd (none.2)

-- the first fault of the form is the input's first
pub form_fault : (input : List ℕ) (fault : InputFault) → IsNotRecorded input fault → IsNotChecked input fault
form_fault input fault is = (is.0, record { first = form_first (recorded_of_input input) fault.fault is.1.first; breach = is.1.breach; bytes = is.1.bytes })

-- ---- inputs that could not be had

pub any_memory : (found : Recording) (breach : Option LogBreach) → BreaksRecorded found faults.Read breach × BreaksRecorded found faults.Memory breach
any_memory (parts.Dump dump) breach = (tt, tt)
any_memory (parts.Log log) breach = (tt, tt)

long_input : (input : List ℕ) → longest < length input → value_meant input ≡ Err faults.TooLong
long_input input is = ap (λ b. cond b (Err faults.TooLong) (or_fault faults.NotJson (json_of (json_text input)))) (lt-ltb longest (length input) is)

pub short_input : (input : List ℕ) → length input ≤ longest → value_meant input ≡ or_fault faults.NotJson (json_of (json_text input))
short_input input is = ap (λ b. cond b (Err faults.TooLong) (or_fault faults.NotJson (json_of (json_text input)))) (le-ltb longest (length input) is)

pub as_it_is : (input : List ℕ) → (is_whole (json_of input) ≡ true) ⊎ (lines_text input ≡ None) → recorded_of_input input ≡ (value_of_input input >>= recorded_of_data)
as_it_is input is = ap (λ t. cond (nat_lt longest (length input)) (Err faults.TooLong) (or_fault faults.NotJson (json_of t)) >>= recorded_of_data) (meant_as_it_is input is)

-- what a JSON text records, if it is more than the first line of a log, is what its value does
pub text_records : (text : List ℕ) (d : Data) → length text ≤ longest → is_whole (Some d) ≡ true → json_of text ≡ Some d → recorded_of_input text ≡ recorded_of_data d
text_records text d short whole is =
    ap (λ v. v >>= recorded_of_data) (short_input text short ∙ ap (λ t. or_fault faults.NotJson (json_of t)) (own_text text (ap is_whole is ∙ whole)) ∙ ap (or_fault faults.NotJson) is)

-- so is a dump that is read from its tokens
pub dump_recorded : (input : List ℕ) (raw : RawDump) → length input ≤ longest → IsDumpText input raw → (recorded_of_input input ≡ Ok (parts.Dump (parts_of raw))) × (input ≡ json_text input)
dump_recorded input raw short h =
    let whole : is_whole (Some (object h.0)) ≡ true = rw h.2 in
    (text_records input (object h.0) short whole h.1 ∙ rw (h.2, h.3), sym (own_text input (ap is_whole h.1 ∙ whole)))

unread_input : (input : List ℕ) (fault : InputFault) (e : RunFault) → fault.fault ≡ e → IsUnread (Some input) e → IsNotRecorded input fault
unread_input input fault faults.Read same is = (rw same tt, record { first = rw same tt; breach = λ a e. rw same (any_memory a fault.breach).0; bytes = rw same tt })
unread_input input fault faults.Memory same is = (rw same tt, record { first = rw same tt; breach = λ a e. rw same (any_memory a fault.breach).1; bytes = rw same tt })
unread_input input fault faults.TooLong same is =
    let none : value_meant input ≡ Err faults.TooLong = long_input input is in
    let long : recorded_of_input input ≡ Err faults.TooLong = ap (λ v. v >>= recorded_of_data) none in
    (rw same (λ d spelled. absurd cc), record { first = rw same (inl long); breach = λ a e. absurd cc; bytes = rw same tt })
unread_input input fault e same is = absurd is

-- that an input could not be had is its first fault
pub unread : (known : Option (List ℕ)) (fault : InputFault) → IsUnread known fault.fault → IfSome known (λ input. IsNotRecorded input fault)
unread None fault is = tt
unread (Some input) fault is = unread_input input fault fault.fault refl is

-- ---- inputs that have not the form

-- the fault of the form of the value that an input means
pub misread : (input : List ℕ) (kind : InputKind) (e : RunFault) (bytes : Vec ℕ Global) → Fails e (recorded_of_input input)
    → ((d : Data) → value_meant input ≡ Ok d → kind ≡ recorded_kind d) → bytes.items ≡ json_text input
    → IsNotRecorded input (record { kind = kind; fault = e; breach = None; input = bytes })
misread input kind faults.Read bytes fails is same = (tt, record { first = tt; breach = λ a e. (any_memory a None).0; bytes = tt })
misread input kind faults.Memory bytes fails is same = (tt, record { first = tt; breach = λ a e. (any_memory a None).1; bytes = tt })
misread input kind faults.TooLong bytes fails is same = (is, record { first = inl fails; breach = λ a e. absurd cc; bytes = tt })
misread input kind e bytes fails is same = (is, record { first = inl fails; breach = λ a e. absurd cc; bytes = same })
