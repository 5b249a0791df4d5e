-- A history of a group that goes on after a recovery has the later events of the members that were down undone.
use Rattle.fbl_trace.specs.declared.trace.Event.TheVariants as event
use Rattle.fbl_trace.specs.declared.trace.Note.{Note}
use Rattle.fbl_trace.specs.declared.trace.Mark.TheVariants as mark
use Rattle.fbl_history.proofs.Common.{◌≡◌, ℕ, ◌<◌, Bool, Settings, false, not, inl, inr, List, [], ◌∷◌, length, map, Some, slice_get, refl, sym, ap, ◌∙◌, arith, nat_tests, Column, Event, GroupRecord}
use Rattle.fbl_history.proofs.Common.{IsAfterRecovery, IsHistoryOf, IsRecovery, IsRecoveryColumn, IsSound, Members, Next, Recovery, cut-one, cut-was, cut-obeys, cut-causes, down_or_up, event_column}
use Rattle.fbl_history.proofs.Common.{filter, filter-agree, fold-received, fold-replayed, go_on, go_on_to, group_recovery_keeps, is_beyond, is_receipt, is_standing, log_counted, mark-at, mark_of}
use Rattle.fbl_history.proofs.Common.{marks, member, note-was, receipt-number, received_counted, receipts_at, receipts_made, sent-number, stays_by, stays_by-cut, trace_columns, undone_beyond}
use Rattle.fbl_history.proofs.Counting.{counted_from, made-changed, undo-receipt}
use Rattle.fbl_history.proofs.Cutting.{cut}
use Rattle.fbl_history.proofs.Parts.{IsPart, same_columns}
use Rattle.fbl_history.proofs.Standing.{standing_is_trace}
use Rattle.fbl_history.proofs.Steps.{pushed}

filter-map : {X Y : Type 0} (f : X → Y) (p : Y → Bool) (xs : List X) → map f (filter (λ x. p (f x)) xs) ≡ filter p (map f xs)
filter-map f p [] = refl
filter-map f p (x ∷ xs) = grind (arith, filter-map f p xs)

module _ (next : Next ℕ Note) (old new : GroupRecord ℕ Note) (step : IsRecovery next old new) (sound : IsSound next old) (received sent : ℕ → ℕ)
    (is_received : (m : ℕ) → m < old.config.members → received m ≡ (member new m).received) (is_sent : (m : ℕ) → m < old.config.members → sent m ≡ length (member new m).log) where
  pub sound-new : IsSound next new
  sound-new = group_recovery_keeps next old new step sound

  -- the events that stay are those that are within the counts
  stays-within : (i : ℕ) (e : Event Note) → slice_get old.trace i ≡ Some e → stays_by old.down (member new) (mark_of e) ≡ not (is_beyond received sent (event_column next old.config.members old.trace e))
  stays-within i (event.Send q k p note) here =
      let at = mark-at old.trace i (event.Send q k p note) here in
      let below = (sound.lawful.well_formed i (mark.Send q k p) at).0 in
      elim (down_or_up old.down q) [
        | inl down ↦ rw (down, is_sent q below) (grind (arith, nat_tests))
        | inr up ↦
            let number = sent-number old.config.members (marks old) sound.lawful.well_formed q k p (i, at) in
            rw (up, is_sent q below, step.rest.survivors q up, log_counted next old sound q below up) (grind (arith, nat_tests))
      ]
  stays-within i (event.Receipt p r q k) here =
      let at = mark-at old.trace i (event.Receipt p r q k) here in
      let below = (sound.lawful.well_formed i (mark.Receipt p r q k) at).1 in
      elim (down_or_up old.down p) [
        | inl down ↦ rw (down, is_received p below) (grind (arith, nat_tests))
        | inr up ↦
            let number = receipt-number old.config.members (marks old) p r q k sound.lawful.well_formed (i, at) in
            rw (up, is_received p below, step.rest.survivors p up, received_counted next old sound p below up) (grind (arith, nat_tests))
      ]

  left : new.trace ≡ filter (λ e. stays_by old.down (member new) (mark_of e)) old.trace
  left = cut-one sound step.trace ∙ sym (stays_by-cut sound (member new)
      (λ p below down. rw (step.rest.config, cut-one sound step.trace) at (fold-replayed {r = new} sound-new.lawful.well_formed (step.folds p below down)))
      (λ p below down. fold-received {r = new} sound-new.lawful.well_formed (step.folds p below down) ∙ ap (λ (t : List (Event Note)). length (receipts_at (map mark_of t) p)) (cut-one sound step.trace)))

  part : IsPart old.config.members new.trace old.trace
  part = record {
    obeys = cut-obeys sound step.trace;
    whole_obeys = sound.lawful.well_formed;
    has = λ e there. (cut-was sound step.trace e there).0;
    notes = λ q k x is. note-was old.config.members step.trace.0 old.trace sound.lawful.well_formed (cut-causes sound step.trace) q k x (rw step.trace.1 at is);
  }

  pub trace_less : trace_columns next new ≡ filter (λ c. not (is_beyond received sent c)) (trace_columns next old)
  trace_less =
      let column = event_column next old.config.members old.trace in
      let stays : Column → Bool = λ c. not (is_beyond received sent c) in
      ap (λ (c : Settings Note). map (event_column next c.members new.trace) new.trace) step.rest.config
      ∙ same_columns part next
      ∙ ap (map column) (left ∙ filter-agree _ (λ e. stays (column e)) old.trace stays-within)
      ∙ filter-map column stays old.trace

  pub gone_back : (columns : List Column) → IsHistoryOf next old columns → go_on_to next columns new ≡ map (undone_beyond received sent) columns
  gone_back columns history =
      let stays : Column → Bool = λ c. not (is_beyond received sent c) in
      ap (go_on columns) (trace_less ∙ ap (filter stays) (sym history.standing)) ∙ cut columns stays (undone_beyond received sent) (λ i c here. grind arith)

  pub follows_on : (columns : List Column) → IsHistoryOf next old columns → IsHistoryOf next new (go_on_to next columns new)
  follows_on columns history =
      let made = ap receipts_made (gone_back columns history) ∙ made-changed (undone_beyond received sent) columns (λ c. grind (arith, undo-receipt c)) in
      counted_from next new (go_on_to next columns new) sound-new (standing_is_trace next new columns) (made ∙ history.counted.0 ∙ sym step.rest.receipts_ever)

-- the column of a recovery is of no event
pub recovery-lies : (r : GroupRecord ℕ Note) (received : ℕ → ℕ) (members : Members) (c : Column) → IsRecoveryColumn r received members c → (is_standing c ≡ false) × (is_receipt c ≡ false)
recovery-lies r received members (Recovery replays) is = (refl, refl)
recovery-lies r received members _ is = absurd is

pub follows_recovery : (next : Next ℕ Note) (old new : GroupRecord ℕ Note) (members : Members) (columns after : List Column) → IsSound next old → IsRecovery next old new
    → IsAfterRecovery next new members columns after → IsHistoryOf next old columns → IsHistoryOf next new after
follows_recovery next old new members columns after sound step is history =
    let lies = recovery-lies new (λ m. (member new m).received) members is.0 is.1 in
    let gone = follows_on next old new step sound (λ m. (member new m).received) (λ m. length (member new m).log) (λ m below. refl) (λ m below. refl) columns history in
    rw is.2 (pushed next new new (go_on_to next columns new) is.0 lies.0 lies.1 refl refl refl refl gone)
