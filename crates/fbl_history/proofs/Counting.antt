-- The columns count the receipts that a group ever made, and those that were undone.
use Rattle.fbl_trace.specs.declared.trace.Note.{Note}
use Rattle.fbl_trace.specs.declared.trace.Event.TheVariants as event
use Rattle.fbl_trace.specs.declared.trace.Mark.TheVariants as mark
use Rattle.fbl_history.proofs.Common.{◌≡◌, ◌+◌, ℕ, filter_map, is_send_of, is_sent_by, send_column, sends_of, Bool, false, cond, List, [], ◌∷◌, ◌++◌, length, map, count_by, refl, ap, ◌∙◌, arith, sum_by-append, sum_by-cons}
use Rattle.fbl_history.proofs.Common.{Event, mark_of, receipts, Next, GroupRecord, IsSound, Column, Send, Receipt, event_column, trace_columns}
use Rattle.fbl_history.proofs.Common.{CountsAsBefore, IsHistoryOf, is_receipt, is_standing, is_undone_receipt, receipts_made, receipts_undone, standing, undo}

pub count-cons : (p : Column → Bool) (column : Column) (columns : List Column) → count_by p (column ∷ columns) ≡ cond (p column) 1 0 + count_by p columns
count-cons p column columns = sum_by-cons (λ c. cond (p c) 1 0) column columns

-- the receipts of a trace
count-trace : (next : Next ℕ Note) (n : ℕ) (trace events : List (Event Note)) → receipts_made (map (event_column next n trace) events) ≡ length (receipts (map mark_of events))
count-trace next n trace [] = refl
count-trace next n trace (event.Send q k p note ∷ events) = omega (arith, count-trace next n trace events, count-cons)
count-trace next n trace (event.Receipt p r q k ∷ events) = omega (arith, count-trace next n trace events, count-cons)

-- each receipt stands or is undone
pub count-kinds : (columns : List Column) → receipts_made columns ≡ receipts_made (standing columns) + receipts_undone columns
count-kinds [] = refl
count-kinds (c ∷ columns) =
    grind (arith, kind c, count-kinds columns, count-cons is_receipt c columns, count-cons is_receipt c (standing columns), count-cons is_undone_receipt c columns) where
      kind : (c : Column) → cond (is_receipt c) 1 0 ≡ cond (is_standing c) (cond (is_receipt c) 1 0) 0 + cond (is_undone_receipt c) 1 0
      kind (Receipt p r q k s undone) = grind arith
      kind (Send q k p undone) = grind arith
      kind _ = refl

-- columns whose standing events are the trace of a sound group count its receipts that were undone where they count those that it made
pub counted_from : (next : Next ℕ Note) (r : GroupRecord ℕ Note) (columns : List Column) → IsSound next r → standing columns ≡ trace_columns next r
    → receipts_made columns ≡ r.receipts_ever → IsHistoryOf next r columns
counted_from next r columns sound stand made =
    record { standing = stand; counted = (made, omega (arith, made, ap receipts_made stand ∙ count-trace next r.config.members r.trace r.trace, count-kinds columns, sound.counted)) }

pub made-append : (columns more : List Column) → receipts_made (columns ++ more) ≡ receipts_made columns + receipts_made more
made-append columns more = sum_by-append (λ c. cond (is_receipt c) 1 0) columns more

-- no column becomes a receipt, or ceases to be one
pub made-changed : (change : Column → Column) (columns : List Column) → ((c : Column) → is_receipt (change c) ≡ is_receipt c) → receipts_made (map change columns) ≡ receipts_made columns
made-changed change [] same = refl
made-changed change (c ∷ columns) same =
    let later = made-changed change columns same in
    rw (count-cons is_receipt (change c) (map change columns), count-cons is_receipt c columns, same c, later) refl

pub undo-receipt : (c : Column) → is_receipt (undo c) ≡ is_receipt c
undo-receipt (Receipt p r q k s u) = refl
undo-receipt _ = refl

-- the sends of a member, as their columns and as events
pub count_sent : (member : ℕ) (events : List (Event Note)) → count_by (is_sent_by member) (filter_map send_column events) ≡ sends_of (map mark_of events) member
count_sent member [] = refl
count_sent member (event.Send q k p note ∷ events) =
    omega (arith, count_sent member events, count-cons (is_sent_by member) (Send q k p false) (filter_map send_column events), sum_by-cons (λ e. cond (is_send_of member e) 1 0) (mark.Send q k p) (map mark_of events))
count_sent member (event.Receipt p r q k ∷ events) =
    omega (arith, count_sent member events, sum_by-cons (λ e. cond (is_send_of member e) 1 0) (mark.Receipt p r q k) (map mark_of events))

-- a column that is of no receipt, behind the others
pub counts_as_before : (columns : List Column) (c : Column) → is_receipt c ≡ false → CountsAsBefore columns (columns ++ c ∷ [])
counts_as_before columns (Receipt p r q k s u) none = absurd cc
counts_as_before columns c none = (
  omega (arith, made-append columns (c ∷ []), count-cons is_receipt c []),
  omega (arith, sum_by-append (λ x. cond (is_undone_receipt x) 1 0) columns (c ∷ []), count-cons is_undone_receipt c []),
)
