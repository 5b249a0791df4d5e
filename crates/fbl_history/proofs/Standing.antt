-- The columns of a trace stand, and no two are the same.
use Rattle.fbl_trace.specs.declared.trace.Note.{Note}
use Rattle.fbl_history.proofs.Common.{◌≡◌, ℕ, List, [], ◌∷◌, map, Some, refl, sym, ap, ◌∙◌, Event, mark_of, Next, GroupRecord, marks, IsSound, mark-at, Column, standing, go_on_to}
use Rattle.fbl_history.proofs.Common.{HasEachOnce, event_column, trace_columns, map-At, one_place}
use Rattle.fbl_trace.specs.declared.trace.Event.TheVariants.{Send, Receipt}
pub use Rattle.fbl_history.proofs.Undoing.{standing_trace}
use Rattle.fbl_history.proofs.Undoing.{same-is}

pub columns_stand : (next : Next ℕ Note) (n : ℕ) (trace events : List (Event Note)) → standing (map (event_column next n trace) events) ≡ map (event_column next n trace) events
columns_stand next n trace [] = refl
columns_stand next n trace (Send q k p note ∷ events) = ap (λ (xs : List Column). event_column next n trace (Send q k p note) ∷ xs) (columns_stand next n trace events)
columns_stand next n trace (Receipt p r q k ∷ events) = ap (λ (xs : List Column). event_column next n trace (Receipt p r q k) ∷ xs) (columns_stand next n trace events)

pub standing_is_trace : (next : Next ℕ Note) (r : GroupRecord ℕ Note) (columns : List Column) → standing (go_on_to next columns r) ≡ trace_columns next r
standing_is_trace next r columns = standing_trace columns (trace_columns next r) (columns_stand next r.config.members r.trace r.trace)

-- events whose columns are equal have the same mark
same-mark : (next : Next ℕ Note) (n : ℕ) (trace : List (Event Note)) (e e' : Event Note) → event_column next n trace e ≡ event_column next n trace e' → mark_of e ≡ mark_of e'
same-mark next n trace (Send q k p note) (Send q' k' p' note') same = cc
same-mark next n trace (Receipt p r q k) (Receipt p' r' q' k') same = cc
same-mark next n trace _ _ same = absurd cc

pub trace_once : (next : Next ℕ Note) (r : GroupRecord ℕ Note) → IsSound next r → HasEachOnce (trace_columns next r)
trace_once next r sound i j a b at_i at_j same =
    let first = map-At (event_column next r.config.members r.trace) r.trace i a at_i in
    let second = map-At (event_column next r.config.members r.trace) r.trace j b at_j in
    let marked : mark_of first.0 ≡ mark_of second.0 =
    same-mark next r.config.members r.trace first.0 second.0 (first.2 ∙ (same-is a b same).0 ∙ sym second.2) in
    one_place r.config.members (marks r) sound.lawful.well_formed (mark_of first.0) i j (mark-at r.trace i first.0 first.1)
    (mark-at r.trace j second.0 second.1 ∙ ap (λ m. Some m) (sym marked))
