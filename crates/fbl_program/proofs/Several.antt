-- Several files, in their order, and what they record.
use Rattle.std.specs.List.{AllZip}
use Rattle.std.specs.Prelude.{slice_get, take}
use Rattle.clap.specs.Words.{Text}
use Rattle.fbl_runs.specs.declared.recording.RawRecording.{RawRecording}
use Rattle.fbl_runs.specs.declared.recording.RawRecording.TheVariants as raws
use Rattle.fbl_order.specs.declared.recordings.MergeFault.TheVariants as faults
use Rattle.fbl_order.specs.declared.recordings.Recordings.{Recordings}
use Rattle.fbl_order.specs.declared.recordings.Recordings.TheVariants.{Dumps, Logs}
use Rattle.fbl_order.specs.Recordings.{AreRecordings, RefusesMerge, count_of}
use Rattle.fbl_records.specs.Logs.{IsNotRecorded}
use Rattle.fbl_program.specs.Jobs.{IsUnrecorded, Known, NotTogether, AreRecordingsOf, Records}
use Rattle.fbl_input.specs.declared.input_fault.InputFault.{InputFault}
use Rattle.fbl_order.specs.declared.files.FilesDiffer.TheVariants as differ
use Rattle.fbl_program.specs.Statuses.{fault_status}
use Rattle.std.proofs.Common.{cond, is_err, is_ok, length, true≢false}
use Rattle.fbl_program.proofs.Common.{◌≡◌, ℕ, zero, suc, ◌+◌, ◌<◌, false, Bor, IfSome, List, [], ◌∷◌, ◌++◌, Some, None, Result, Ok, Err, ap, arith, drop, inl, inr, map, refl, subst, unwrap_or}

-- ---- lists

-- one more pair
pub zip_more : {A B : Type 0} (R : A → B → Type 0) (xs : List A) (ys : List B) (x : A) (y : B) → AllZip R xs ys → R x y → AllZip R (xs ++ x ∷ []) (ys ++ y ∷ [])
zip_more R [] [] x y all r = (r, tt)
zip_more R [] (b ∷ ys) x y all r = absurd all
zip_more R (a ∷ xs) [] x y all r = absurd all
zip_more R (a ∷ xs) (b ∷ ys) x y all r = (all.0, zip_more R xs ys x y all.1 r)

same_item : {A : Type 0} (x y : A) → Some x ≡ Some y → x ≡ y
same_item x y e = ap (λ o. unwrap_or o x) e

pub item_at : {A : Type 0} (xs : List A) (i : ℕ) → i < length xs → (x : A) × (slice_get xs i ≡ Some x)
item_at [] i inside = absurd (omega (arith, inside))
item_at (x ∷ xs) zero inside = (x, refl)
item_at (x ∷ xs) (suc i) inside = item_at xs i (omega (arith, inside))

module _ {A B C : Type 0} (f : A → B) (g : B → C) where
  -- what is known of the names up to a place, and of the one there
  pub known_more : (xs : List A) (i : ℕ) (x : A) → slice_get xs i ≡ Some x → map g (map f (take (suc i) xs)) ≡ map g (map f (take i xs)) ++ g (f x) ∷ []
  known_more [] i x at = absurd (cc)
  known_more (y ∷ ys) zero x at = ap (λ z. g (f z) ∷ []) (same_item y x at)
  known_more (y ∷ ys) (suc i) x at = ap (λ zs. g (f y) ∷ zs) (known_more ys i x at)

  -- and of those behind it
  pub known_split : (xs : List A) (i : ℕ) (x : A) → slice_get xs i ≡ Some x → map g (map f xs) ≡ map g (map f (take i xs)) ++ g (f x) ∷ map g (map f (drop (suc i) xs))
  known_split [] i x at = absurd (cc)
  known_split (y ∷ ys) zero x at = ap (λ z. g (f z) ∷ map g (map f ys)) (same_item y x at)
  known_split (y ∷ ys) (suc i) x at = ap (λ zs. g (f y) ∷ zs) (known_split ys i x at)

-- ---- files that are read in turn

module _ (input : Text → Known) (names : List (Bor Text)) (i : ℕ) (name : Bor Text) (at : slice_get names i ≡ Some name) (found : List RawRecording)
    (so_far : AllZip Records (map input (map (λ n. n.now) (take i names))) found) where
  -- one more records something
  pub read_more : (more : RawRecording) → Records (input name.now) more → AllZip Records (map input (map (λ n. n.now) (take (i + 1) names))) (found ++ more ∷ [])
  read_more more records =
      let next : i + 1 ≡ suc i = omega arith in
      rw (next, known_more (λ (n : Bor Text). n.now) input names i name at) (zip_more Records _ found (input name.now) more so_far records)

  -- or records nothing
  pub read_none : (status : ℕ) → IsUnrecorded (input name.now) status → NotTogether (map input (map (λ n. n.now) names)) status
  read_none status none =
      inl (
        map input (map (λ n. n.now) (take i names)),
        input name.now,
        map input (map (λ n. n.now) (drop (suc i) names)),
        found,
        known_split (λ (n : Bor Text). n.now) input names i name at,
        so_far,
        none,
      )

-- the fault of a file is told, with this exit status
abbrev IsTold : ℕ → List ℕ → Type 0
IsTold status input = (fault : InputFault) × IsNotRecorded input fault × (status ≡ fault_status fault.fault)

pub told_fault : (before file : Known) (fault : InputFault) (status : ℕ) → before ≡ file → IfSome before (λ input. IsNotRecorded input fault)
    → status ≡ fault_status fault.fault → IsUnrecorded file status
told_fault before file fault status same found told = inr (subst (λ known. IfSome known (IsTold status)) same (known before found))
  where
    known : (o : Known) → IfSome o (λ input. IsNotRecorded input fault) → IfSome o (IsTold status)
    known None h = tt
    known (Some input) h = (fault, h, told)

-- one was pushed, since that did not fail
pub pushed : {X E A : Type 0} (r : Result X E) (new more old : List A) → is_err r ≡ false → new ≡ cond (is_ok r) more old → new ≡ more
pushed (Ok x) new more old fine is = is
pushed (Err e) new more old fine is = absurd (true≢false fine)

-- ---- what files record together

not_empty : {A B : Type 0} (f : A → B) (xs : List A) (y : B) (ys : List B) → y ∷ ys ≡ map f xs → 0 < length xs
not_empty f [] y ys is = absurd (cc)
not_empty f (x ∷ xs) y ys is = omega arith

-- what some files record together are some dumps or logs
pub some_recordings : (input : Text → Known) (names : List (Bor Text)) (recordings : Recordings) → 0 < length names
    → AreRecordingsOf (map input (map (λ n. n.now) names)) recordings → 0 < count_of recordings
some_recordings input [] recordings some is = absurd (omega (arith, some))
some_recordings input (n ∷ ns) (Dumps dumps) some ([], zip, is) = absurd zip
some_recordings input (n ∷ ns) (Dumps dumps) some (r ∷ rs, zip, is) = not_empty raws.Dump dumps.items r rs is
some_recordings input (n ∷ ns) (Logs logs) some (found, zip, is) = is.0

-- so is what one file records
pub one_recording : (recorded : RawRecording) (recordings : Recordings) → AreRecordings (recorded ∷ []) recordings → 0 < count_of recordings
one_recording recorded (Dumps dumps) is = not_empty raws.Dump dumps.items recorded [] is
one_recording recorded (Logs logs) is = is.0

-- memory may run out for what they are together
pub short_of_memory : (recordings : Recordings) → RefusesMerge recordings (faults.Files differ.Memory)
short_of_memory (Dumps dumps) = inl refl
short_of_memory (Logs logs) = inl refl
