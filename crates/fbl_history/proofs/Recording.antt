-- A history that is gone through again goes on by one column, and what stops it.
use Rattle.std.proofs.Common.{ap, arith, get_or, length-append, refl, sym, Bool, true}
use Rattle.std.proofs.lemmas.List.{drop_more}
use Rattle.std.proofs.lemmas.Result.{IfErr-at_err, IfOk-at_ok, err_from_is_err_and}
use Rattle.std.specs.Prelude.{Err, IfErr, IfOk, Result}
use Rattle.std.specs.Result.{IsErrAnd}
use Rattle.fbl_trace.specs.contracts.trace.MarkPartialEq.TheImpl as impl
use Rattle.fbl_trace.specs.declared.trace.Event.{Event as TraceEvent}
use Rattle.fbl_trace.specs.declared.trace.Mark.{Mark}
use Rattle.fbl_trace.specs.declared.trace.Mark.TheVariants.{Receipt, Send}
use Rattle.fbl_trace.specs.declared.trace.Note.{Note}
use Rattle.fbl_trace.specs.Events.{mark_of}
use Rattle.fbl_group.specs.Deliveries.{Delivers}
use Rattle.fbl_group.specs.declared.answers.Receipted.{Receipted}
use Rattle.fbl_runs.specs.Logs.{IsLog, RunParts, parts_of_log}
use Rattle.fbl_runs.specs.declared.run.RawLog.{RawLog}
use Rattle.fbl_group.proofs.Common.{nat_tests}
use Rattle.fbl_history.proofs.Common.{◌≡◌, ◌∙◌, ℕ, ◌+◌, ◌<◌, List, [], ◌∷◌, ◌++◌, length, drop, Column, GroupRecord, Next, Ok, Settings}
use Rattle.fbl_history.specs.Records.{IsLogFault, IsOfAnother, IsRecord, IsRecordOf, IsStopped, Makes, Recorded, Records, RecordsAll}
use Rattle.fbl_history.specs.declared.record.RecordRefusal.{RecordRefusal}
use Rattle.fbl_history.specs.declared.record.RecordRefusal.TheVariants as faults

-- ---- marks

abbrev pub same_mark : Mark → Mark → Bool
same_mark a b = (impl.ghosts).eq a b

pub same_true : (a b : Mark) → same_mark a b ≡ true → a ≡ b
same_true (Send from ssn to) (Send from' ssn' to') is = grind (arith, nat_tests, is)
same_true (Receipt to rsn from ssn) (Receipt to' rsn' from' ssn') is = grind (arith, nat_tests, is)
same_true a b is = cc

pub same_self : (a : Mark) → same_mark a a ≡ true
same_self (Send from ssn to) = grind (arith, nat_tests)
same_self (Receipt to rsn from ssn) = grind (arith, nat_tests)

pub same_if : (a b : Mark) → a ≡ b → same_mark a b ≡ true
same_if a b is = rw is (same_self b)

-- ---- steps

pub records_more : (next : Next ℕ Note) (columns : List Column) (column : Column) (old mid new : Recorded) → RecordsAll next old columns mid → Records next mid column new
    → RecordsAll next old (columns ++ column ∷ []) new
records_more next [] column old mid new is last = (new, (rw is at last), refl)
records_more next (c ∷ columns) column old mid new is last = (is.0, is.1, records_more next columns column is.0 mid new is.2 last)

-- a delivery makes a trace longer
pub trace_grows : (next : Next ℕ Note) (old new : GroupRecord ℕ Note) (to from : ℕ) (answer : Receipted ℕ) → Delivers next old new to from answer
    → length old.trace < length new.trace
trace_grows next old new to from answer is = rw (is.2.delivery.trace, length-append old.trace _) (omega arith)

-- what it makes, by its first event
pub makes : (old new : GroupRecord ℕ Note) (event : TraceEvent Note) → length old.trace < length new.trace → event ≡ get_or new.trace (length old.trace) event
    → Makes old new (mark_of event) (drop (length old.trace + 1) new.trace)
makes old new event longer is = record {
  event = event;
  made = drop_more new.trace (length old.trace) event longer ∙ ap (λ e. e ∷ drop (length old.trace + 1) new.trace) (sym is);
  is = refl;
}

-- ---- faults

pub stopped_weaker : (P Q : Type 0) → (P → Q) → (fault : RecordRefusal) → IsStopped P fault → IsStopped Q fault
stopped_weaker P Q f faults.Memory is = tt
stopped_weaker P Q f faults.OtherHistory is = f is
stopped_weaker P Q f x is = absurd is

pub stopped_err : {T : Type 0} (r : Result T RecordRefusal) (fault : RecordRefusal) (P Q : Type 0) → (P → Q) → IsErrAnd r (λ e. e ≡ fault) → IsStopped P fault
    → IfErr r (IsStopped Q)
stopped_err r fault P Q f failed is = (let e = err_from_is_err_and r failed in rw (e.1, e.2) (stopped_weaker P Q f fault is))

module _ (next : Next ℕ Note) (config : Settings Note) (columns : List Column) where
  of_another : (fault : RecordRefusal) → IsStopped (IsOfAnother next config columns) fault → IsRecord next config columns (Err fault)
  of_another faults.Memory is = tt
  of_another faults.OtherHistory is = is
  of_another x is = absurd is

  -- the history is of another group
  pub another_ends : (r : Result RunParts RecordRefusal) (fault : RecordRefusal) → IsErrAnd r (λ e. e ≡ fault) → IsStopped (IsOfAnother next config columns) fault
      → IsRecord next config columns r
  another_ends r fault failed is = (let e = err_from_is_err_and r failed in rw (e.1, e.2) (of_another fault is))

  no_log : (raw : RawLog) → IsRecordOf next config columns raw → (fault : RecordRefusal) → IsLogFault (parts_of_log raw) fault → IsRecord next config columns (Err fault)
  no_log raw made faults.Memory is = tt
  no_log raw made (faults.Refused breach) is = (raw, made, is)
  no_log raw made x is = absurd is

  -- the record is a log, or it is not
  pub record_ends : (raw : RawLog) → IsRecordOf next config columns raw → (r : Result RunParts RecordRefusal) → IfOk r (λ run. IsLog run × (run ≡ parts_of_log raw))
      → IfErr r (IsLogFault (parts_of_log raw)) → IsRecord next config columns r
  record_ends raw made (Ok run) well bad =
      let is = IfOk-at_ok {T = RunParts} {E = RecordRefusal} (λ run. IsLog run × (run ≡ parts_of_log raw)) {r = Ok run} {x = run} refl well in
      (raw, made, is.1, is.0)
  record_ends raw made (Err fault) well bad = no_log raw made fault (IfErr-at_err {T = RunParts} {E = RecordRefusal} (IsLogFault (parts_of_log raw)) {r = Err fault} {y = fault} refl bad)
