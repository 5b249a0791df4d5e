-- The exit status of what was done, and whether a play was refused something.
use Rattle.fbl_trace.specs.declared.trace.Note.{Note}
use Rattle.fbl_program.proofs.Common.{◌≡◌, ℕ, ◌||◌, ◌&&◌, not, Bool, false, inl, refl, IsScriptOf, Script, List, [], ◌∷◌, Option, Some, None, Result, Ok, Err, IfSome, arith, IsErrAnd, OutputFault, PutsOut, puts_as, ap, ◌∙◌, list_any, or-false, sym, RunFault}
use Rattle.fbl_play.specs.Plays.{IsRecordPlay}
use Rattle.fbl_input.specs.Faults.{run_result}
use Rattle.fbl_records.specs.LogLines.{log_line}
use Rattle.fbl_runs.specs.Logs.{RunParts}
use Rattle.fbl_program.specs.Outcomes.{DoesScript, EndsTask, IsRecorded, TriesScript}
use Rattle.fbl_program.specs.declared.job.ScriptTask.{ScriptTask}
use Rattle.fbl_program.proofs.Common.{Answer, AnswerFault, Answers, Output, is_refusal, Command, GroupRecord, Observes, PlaysScript, Ran, Transcript, Outline, PlaysWell, next_of, status_after, text, unobserved}

-- what is known of what was done over an input is known of the status that it ends with
pub ended : (known : Option (List ℕ)) (Does : List ℕ → Result Bool RunFault → Type 0) (done : Result Bool RunFault) (status : ℕ) → status ≡ status_after done
    → IfSome known (λ input. Does input done) → IfSome known (λ input. (r : Result Bool RunFault) × Does input r × (status ≡ status_after r))
ended None Does done status is h = tt
ended (Some input) Does done status is h = (done, h, is)

-- so it is of what was done with a script
pub script_ended : (task : ScriptTask) (s : Outline) (before after : Option (List ℕ)) (done : Result Bool OutputFault) (status : ℕ) (known : Option (List ℕ))
    → IfSome known (λ input. IsScriptOf input s) → DoesScript task s before after done → status ≡ status_after (run_result done)
    → IfSome known (λ input. EndsTask (Script task) input before after status)
script_ended task s before after done status None is does same = tt
script_ended task s before after done status (Some input) is does same = inl (run_result done, inl (s, done, is, does, refl), same)

-- an answer that was cut off, seen as whether all is well
pub cut : {A : Type 0} (IsRight : A → List ℕ → Type 0) (IsSeen : Bool → List ℕ → Type 0) (f : A → Bool) → ((x : A) (told : List ℕ) → IsRight x told → IsSeen (f x) told)
    → (before after : Option (List ℕ)) (e : OutputFault) (r : Result Bool OutputFault) → IsErrAnd r (λ x. x ≡ e) → PutsOut IsRight before after (Err e) → PutsOut IsSeen before after r
cut IsRight IsSeen f right before after e (Ok x) same puts = absurd same
cut IsRight IsSeen f right before after e (Err x) same puts = rw same (puts_as IsRight IsSeen f right before after e puts)

-- the same of an answer that may be of an entry that is missing
pub cut_answer : {A : Type 0} (IsRight : A → List ℕ → Type 0) (IsSeen : Bool → List ℕ → Type 0) (Missing : Type 0) (f : A → Bool)
    → ((x : A) (told : List ℕ) → IsRight x told → IsSeen (f x) told) → (before after : Option (List ℕ)) (e : OutputFault) (r : Result Bool AnswerFault)
    → IsErrAnd r (λ x. x ≡ Output e) → PutsOut IsRight before after (Err e) → Answers IsSeen Missing before after r
cut_answer IsRight IsSeen Missing f right before after e (Ok x) same puts = absurd same
cut_answer IsRight IsSeen Missing f right before after e (Err x) same puts = rw same (puts_as IsRight IsSeen f right before after e puts)

-- the same of a script, which may have no record
pub tries_err : (task : ScriptTask) (s : Outline) (before after : Option (List ℕ)) (e : OutputFault) (r : Result Bool AnswerFault) → IsErrAnd r (λ x. x ≡ Output e)
    → DoesScript task s before after (Err e) → TriesScript task s before after r
tries_err task s before after e (Ok x) same does = absurd same
tries_err task s before after e (Err x) same does = rw same does

-- what a record of a play has as its line, whoever observes the play
module _ {O : Type 0} (seen_before : GroupRecord ℕ Note → Transcript → O → Command → O → Type 0) (seen_after : GroupRecord ℕ Note → Transcript → O → Command → Answer → O → Type 0) where
  module _ (workers : ℕ) (s : Outline) (old new : O) where
    pub recorded : (run : RunParts) (told : List ℕ) → IsRecordPlay seen_before seen_after workers s old new (Ok run) → told ≡ log_line run → IsRecorded workers s told
    recorded run told (columns, plays, made) is = (columns, run, plays.0, made, is)

-- an observer that keeps whether some command was refused
module _ {O : Type 0} (has : O → Bool) where
  abbrev keeps : GroupRecord ℕ Note → Transcript → O → Command → O → Type 0
  keeps r t old command new = has new ≡ has old

  abbrev counts : GroupRecord ℕ Note → Transcript → O → Command → Answer → O → Type 0
  counts r t old command answer new = has new ≡ (has old || is_refusal answer)

  keeps_refusals : (ran : List Ran) (old new : O) → Observes keeps counts ran old new → has new ≡ (has old || list_any (λ r. is_refusal r.answer) ran)
  keeps_refusals [] old new is = ap has is ∙ sym (or-false (has old))
  keeps_refusals (r ∷ ran) old new is = grind (arith, keeps_refusals ran is.1 new is.4, is.2, is.3)

  module _ (workers : ℕ) (strict : Bool) (s : Outline) (before after : Option (List ℕ)) (old new : O) where
    -- so after a play it says whether all is well
    pub plays_well : has old ≡ false → PlaysScript keeps counts workers s (text before) (text after) old new (Ok tt) → PlaysWell workers strict s before after (Ok (not (strict && has new)))
    plays_well fresh played =
        (played.0, ap (λ b. not (strict && b)) (keeps_refusals played.0.0 old new played.1 ∙ ap (λ b. b || list_any (λ (r : Ran). is_refusal r.answer) played.0.0) fresh))

    -- or the play stopped
    pub plays_short : (fault : OutputFault) (r : Result Bool OutputFault) → IsErrAnd r (λ e. e ≡ fault) → PlaysScript keeps counts workers s (text before) (text after) old new (Err fault)
        → PlaysWell workers strict s before after r
    plays_short fault (Ok x) same played = absurd same
    plays_short fault (Err e) same played = rw same (unobserved keeps counts (next_of s.behaviour) workers s.config s.commands (text before) old (text after) new (Err fault) played)
