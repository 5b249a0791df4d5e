-- The history of a new group, and what a strike and a checkpoint add to one.
use Rattle.fbl_trace.specs.declared.trace.Event.TheVariants as event
use Rattle.fbl_trace.specs.declared.trace.Note.{Note}
use Rattle.fbl_trace.specs.declared.trace.Start.{Start}
use Rattle.fbl_history.proofs.Common.{◌≡◌, ℕ, ◌+◌, false, List, [], ◌∷◌, ◌++◌, map, refl, sym, ap, ◌∙◌, arith, append-nil, filter-append, filter_map, filter_map-append, map-append}
use Rattle.fbl_history.proofs.Common.{Checkpoint, Column, Event, GroupRecord, IsCheckpoint, IsGroupStart, IsHistoryOf, IsStrike, Members, Next, Settings, Strike, event_column, is_receipt, is_standing}
use Rattle.fbl_history.proofs.Common.{mark_of, send_column, sends_of, standing, start_columns, start_events}
use Rattle.fbl_history.proofs.Counting.{count-kinds, counts_as_before}
use Rattle.fbl_history.proofs.Deliveries.{made_none}
use Rattle.fbl_history.proofs.Standing.{columns_stand}

-- a column that is of no event, behind a history
pub pushed : (next : Next ℕ Note) (old new : GroupRecord ℕ Note) (columns : List Column) (c : Column) → is_standing c ≡ false → is_receipt c ≡ false → new.trace ≡ old.trace → new.config ≡ old.config
    → new.receipts_ever ≡ old.receipts_ever → new.undone_ever ≡ old.undone_ever → IsHistoryOf next old columns → IsHistoryOf next new (columns ++ c ∷ [])
pushed next old new columns c lies none trace config ever undone history =
    let before = counts_as_before columns c none in
    record {
      standing =
          filter-append is_standing columns (c ∷ [])
          ∙ rw lies (append-nil (standing columns))
          ∙ history.standing
          ∙ (λ i. map (event_column next (sym config i).members (sym trace i)) (sym trace i));
      counted = (before.0 ∙ history.counted.0 ∙ sym ever, before.1 ∙ history.counted.1 ∙ sym undone);
    }

pub follows_strike : (next : Next ℕ Note) (old new : GroupRecord ℕ Note) (struck : Members) (columns : List Column) → IsStrike next old new struck
    → IsHistoryOf next old columns → IsHistoryOf next new (columns ++ Strike struck ∷ [])
follows_strike next old new struck columns step = pushed next old new columns (Strike struck) refl refl step.trace step.config step.receipts_ever step.undone_ever

pub follows_checkpoint : (next : Next ℕ Note) (old new : GroupRecord ℕ Note) (p : ℕ) (columns : List Column) → IsCheckpoint old new p
    → IsHistoryOf next old columns → IsHistoryOf next new (columns ++ Checkpoint p ∷ [])
follows_checkpoint next old new p columns step = rw step.saved (pushed next old _ columns (Checkpoint p) refl refl refl refl refl refl)

-- ---- new groups

-- the events of starts are sends
all-sends : (next : Next ℕ Note) (n : ℕ) (trace done : List (Event Note)) (starts : List (Start Note)) → map (event_column next n trace) done ≡ filter_map send_column done
    → map (event_column next n trace) (start_events done starts) ≡ filter_map send_column (start_events done starts)
all-sends next n trace done [] same = same
all-sends next n trace done (s ∷ starts) same =
    all-sends next n trace (done ++ event.Send s.from (sends_of (map mark_of done) s.from + 1) s.to s.note ∷ []) starts (rw (map-append, filter_map-append, same) refl)

-- the send of one start more
pub start_events-push : (done : List (Event Note)) (starts : List (Start Note)) (s : Start Note)
    → start_events done (starts ++ s ∷ []) ≡ start_events done starts ++ event.Send s.from (sends_of (map mark_of (start_events done starts)) s.from + 1) s.to s.note ∷ []
start_events-push done [] s = refl
start_events-push done (x ∷ starts) s = start_events-push (done ++ event.Send x.from (sends_of (map mark_of done) x.from + 1) x.to x.note ∷ []) starts s

pub begins_at_start : (next : Next ℕ Note) (config : Settings Note) (r : GroupRecord ℕ Note) → IsGroupStart next config r → IsHistoryOf next r (start_columns config.starts)
begins_at_start next config r start =
    let column = event_column next r.config.members r.trace in
    let same : map column r.trace ≡ start_columns config.starts = rw start.trace (all-sends next r.config.members (start_events [] config.starts) [] config.starts refl) in
    let made = made_none (start_events [] config.starts) in
    record {
      standing = ap standing (sym same) ∙ columns_stand next r.config.members r.trace r.trace;
      counted = (made ∙ sym start.receipts_ever, omega (arith, made, count-kinds (start_columns config.starts), start.undone_ever));
    }
