-- What several files record together, and their versions.
use Rattle.std.proofs.Common.{◌≡◌, ℕ, suc, ◌+◌, ◌<◌, Bool, false, true, List, [], ◌∷◌, ◌++◌, Some, Result, Ok, Err, IfErr, ap, arith, length, map, refl, subst, sym, take, ◌∙◌}
use Rattle.std.proofs.lemmas.List.{length-map, map-append}
use Rattle.std.specs.Prelude.{slice_get}
use Rattle.std.specs.Result.{IsErrAnd}
use Rattle.fbl_trace.proofs.Gets.{take-more}
use Rattle.fbl_runs.specs.declared.recording.RawRecording.{RawRecording}
use Rattle.fbl_runs.specs.declared.recording.RawRecording.TheVariants as raws
use Rattle.fbl_order.specs.declared.recordings.Recordings.{Recordings}
use Rattle.fbl_order.specs.declared.recordings.Recordings.TheVariants.{Dumps, Logs}
use Rattle.fbl_order.specs.Recordings.{AreRecordings, IsOtherVersion, is_log}

-- a fault that is passed on
pub same_fault : {X E : Type 0} (P : E → Type 0) (fault : E) (r : Result X E) → IsErrAnd r (λ e. e ≡ fault) → P fault → IfErr r P
same_fault P fault (Ok x) same p = tt
same_fault P fault (Err e) same p = subst P (sym same) p

-- there are so many dumps, and the next one is a log, or the reverse
abbrev IsOther : Recordings → RawRecording → ℕ → Type 0
IsOther (Dumps dumps) (raws.Log raw) n = (n ≡ length dumps.items) × (0 < length dumps.items)
IsOther (Logs logs) (raws.Dump raw) n = n ≡ length logs.items
IsOther recordings next n = ⊥

all_same : {A : Type 0} (f : A → RawRecording) (b : Bool) (xs : List A) → ((x : A) → is_log (f x) ≡ b) → map is_log (map f xs) ≡ map (λ _. b) (map f xs)
all_same f b [] is = refl
all_same f b (x ∷ xs) is = rw (is x, all_same f b xs is) refl

pub other_version : (recordings : Recordings) (next : RawRecording) (n : ℕ) → IsOther recordings next n → (found rest : List RawRecording) → AreRecordings found recordings → IsOtherVersion (found ++ next ∷ rest) (is_log next) n
other_version (Dumps dumps) (raws.Log raw) n other found rest are = record {
  before = found;
  other = raws.Log raw;
  is = refl;
  rest = rest;
  found_is = refl;
  some = omega (arith, other.0, other.1);
  place = ap length are ∙ length-map dumps.items raws.Dump ∙ sym other.0;
  differ = rw are (all_same raws.Dump false dumps.items (λ _. refl));
}
other_version (Logs logs) (raws.Dump raw) n other found rest are = record {
  before = found;
  other = raws.Dump raw;
  is = refl;
  rest = rest;
  found_is = refl;
  some = omega (arith, other, are.0);
  place = ap length are.1 ∙ length-map logs.items raws.Log ∙ sym other;
  differ = rw are.1 (all_same raws.Log true logs.items (λ _. refl));
}
other_version (Dumps dumps) (raws.Dump raw) n other found rest are = absurd other
other_version (Logs logs) (raws.Log raw) n other found rest are = absurd other

-- one number more, of one item more
pub counted_more : {A : Type 0} (f : A → ℕ) (xs : List A) (i : ℕ) (x : A) → slice_get xs i ≡ Some x → (counts : List ℕ) (count : ℕ) → counts ≡ map f (take i xs) → count ≡ f x
    → counts ++ count ∷ [] ≡ map f (take (i + 1) xs)
counted_more f xs i x at counts count are is =
    let next : i + 1 ≡ suc i = omega arith in
    rw (next, take-more xs i x at, are, is) (sym (map-append f (take i xs) (x ∷ [])))
