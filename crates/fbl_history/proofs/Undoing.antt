-- How a history goes on to a trace.
use Rattle.fbl_history.proofs.Common.{◌≡◌, true, false, List, [], ◌∷◌, drop, refl, sym, ap, ◌∙◌, arith, nat_tests, Column, is_standing, undo, same_standing, standing}
use Rattle.fbl_history.proofs.Common.{is_next, go_on, ◌⊎◌, Send, Receipt, column_then, trace_then, GoesOnFrom}

-- columns of the same standing event are equal, and stand
pub same-is : (a b : Column) → same_standing a b ≡ true → (a ≡ b) × (is_standing b ≡ true)
same-is (Send q k p false) (Send q' k' p' false) h = grind (arith, nat_tests)
same-is (Receipt p r q k s false) (Receipt p' r' q' k' s' false) h = grind (arith, nat_tests)
same-is _ _ h = absurd cc

-- a undone column does not stand
pub undone-lies : (column : Column) → is_standing (undo column) ≡ false
undone-lies (Send q k p undone) = refl
undone-lies _ = refl

-- what is next stands
pub next-is : (column : Column) (trace : List Column) → is_next column trace ≡ true → (trace ≡ column ∷ drop 1 trace) × (is_standing column ≡ true)
next-is column [] h = absurd cc
next-is column (event ∷ trace) h =
    let same = same-is column event h in
    (ap (λ x. x ∷ trace) (sym same.0), ap is_standing same.0 ∙ same.1)

-- the standing events of what goes on to a trace are that trace
pub standing_trace : (columns trace : List Column) → standing trace ≡ trace → standing (go_on columns trace) ≡ trace
standing_trace [] trace stand = stand
standing_trace (column ∷ columns) trace stand = grind (arith, standing_trace columns (trace_then column trace), next-is column trace, undone-lies column, ap (drop 1) stand)

-- nothing but what stands is undone, and nothing that is undone comes back
pub stays_or_undone : (column : Column) (trace : List Column)
    → (column_then column trace ≡ column) ⊎ ((is_standing column ≡ true) × (column_then column trace ≡ undo column))
stays_or_undone column trace = grind arith

pub goes_on : (columns trace : List Column) → GoesOnFrom columns (go_on columns trace)
goes_on [] trace = tt
goes_on (column ∷ columns) trace = (stays_or_undone column trace, goes_on columns (trace_then column trace))
