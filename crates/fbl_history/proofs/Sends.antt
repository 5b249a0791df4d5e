-- In a history each receipt comes after a send of its message.
use Rattle.fbl_trace.specs.declared.trace.Note.{Note}
use Rattle.fbl_trace.specs.declared.trace.Event.TheVariants as event
use Rattle.fbl_trace.specs.declared.trace.Mark.TheVariants as mark
use Rattle.fbl_history.proofs.Common.{◌≡◌, ◌⊎◌, ◌<◌, ◌==◌, ◌&&◌, ℕ, zero, suc, Bool, true, false, inl, inr, List, [], ◌∷◌, ◌++◌, length, get_or, Some, slice_get, refl, ap, sym, ◌∙◌, arith, nat_tests, At-below, At-front, At-push}
use Rattle.fbl_history.proofs.Common.{Event, mark_of, Next, GroupRecord, marks, IsSound, eqb-self, filter_map, send_column, mark-at, send-at, sent-before, map-At, slice_get-map, slice_get-get_or, option_map}
use Rattle.fbl_history.proofs.Common.{Column, Send, Receipt, ReceiptsFollowSends, column_then, event_column, get_or_from_slice_get, go_on, go_on_to, is_next, is_receipt, trace_columns, trace_then, undo}
use Rattle.std.proofs.lemmas.List.Sums.{fails_before_first, passes_at_first}
use Rattle.std.proofs.Math.Logic.{∥∥₁_elim}
use Rattle.std.specs.Coded.{Coded-set, codes}
use Rattle.std.specs.List.{position_or_len}
use Rattle.fbl_history.proofs.Cutting.{undo-lies}
use Rattle.fbl_history.proofs.Undoing.{same-is, undone-lies}

-- what a column becomes is the same event, undone or not
then-undo : (column : Column) (trace : List Column) → undo (column_then column trace) ≡ undo column
then-undo column trace = grind (arith, undo-lies (undo column), undone-lies column)

-- the column was at this place, undone or not
abbrev WasThere : List Column → ℕ → Column → Type 0
WasThere columns place c = (old : Column) × (slice_get columns place ≡ Some old) × (undo old ≡ undo c)

-- the column is of the trace that the history goes on to, and what comes before it in the trace is before this place
abbrev IsOfTrace : List Column → List Column → ℕ → Column → Type 0
IsOfTrace columns trace place c =
    (j : ℕ) × (slice_get trace j ≡ Some c) × ((i : ℕ) (d : Column) → i < j → slice_get trace i ≡ Some d → (k : ℕ) × (k < place) × (slice_get (go_on columns trace) k ≡ Some d))

-- what a history that goes on has at a place was there before, or is of the trace
was_there : (columns trace : List Column) (place : ℕ) (c : Column) → slice_get (go_on columns trace) place ≡ Some c → WasThere columns place c ⊎ IsOfTrace columns trace place c
was_there [] trace place c at = inr (place, at, λ i d before here. (i, before, here))
was_there (column ∷ columns) trace zero c at = inl (column, refl, (let same : column_then column trace ≡ c = cc in sym (then-undo column trace) ∙ ap undo same))
was_there (column ∷ columns) trace (suc place) c at = by trace (is_next column trace) refl (was_there columns (trace_then column trace) place c at) where
  by : (trace : List Column) (b : Bool) → is_next column trace ≡ b → WasThere columns place c ⊎ IsOfTrace columns (trace_then column trace) place c
      → WasThere columns place c ⊎ IsOfTrace (column ∷ columns) trace (suc place) c
  by trace b is (inl old) = inl old
  by trace false is (inr new) = inr (new.0, rw is at new.1, λ i d before here. (let found = new.2 i d before (rw is here) in (suc found.0, omega (arith, found.1), found.2)))
  by (x ∷ trace) true is (inr new) = inr (suc new.0, rw is at new.1, earlier) where
    earlier : (i : ℕ) (d : Column) → i < suc new.0 → slice_get (x ∷ trace) i ≡ Some d → (k : ℕ) × (k < suc place) × (slice_get (go_on (column ∷ columns) (x ∷ trace)) k ≡ Some d)
    earlier zero d before here = (0, omega arith, grind (arith, is, here, same-is column x))
    earlier (suc i) d before here = (let found = new.2 i d (omega arith) (rw is here) in (suc found.0, omega (arith, found.1), found.2))
  by [] true is new = absurd cc

-- and what was there is at its place behind
is_there : (columns trace : List Column) (place : ℕ) (c : Column) → slice_get columns place ≡ Some c
    → (new : Column) × (slice_get (go_on columns trace) place ≡ Some new) × (undo new ≡ undo c)
is_there [] trace place c at = absurd cc
is_there (column ∷ columns) trace zero c at = (column_then column trace, refl, (let same : column ≡ c = cc in then-undo column trace ∙ ap undo same))
is_there (column ∷ columns) trace (suc place) c at = is_there columns (trace_then column trace) place c at

-- an event is of the same message whether it is undone or not
is-receipt : (c : Column) (to rsn from ssn state : ℕ) → undo c ≡ Receipt to rsn from ssn state true
    → (undone : Bool) × (c ≡ Receipt to rsn from ssn state undone)
is-receipt (Receipt p r q k s u) to rsn from ssn state same = (u, cc)
is-receipt _ to rsn from ssn state same = absurd cc

is-send : (c : Column) (from ssn to : ℕ) → undo c ≡ Send from ssn to true → (undone : Bool) × (c ≡ Send from ssn to undone)
is-send (Send q k p u) from ssn to same = (u, cc)
is-send _ from ssn to same = absurd cc

-- ---- traces

-- a receipt of a sound group's trace is behind its send
sent-in-trace : (next : Next ℕ Note) (r : GroupRecord ℕ Note) → IsSound next r → (j to rsn from ssn state : ℕ) (undone : Bool)
    → slice_get (trace_columns next r) j ≡ Some (Receipt to rsn from ssn state undone)
    → (i : ℕ) × (i < j) × (slice_get (trace_columns next r) i ≡ Some (Send from ssn to false))
sent-in-trace next r sound j to rsn from ssn state undone at =
    let found = map-At (event_column next r.config.members r.trace) r.trace j (Receipt to rsn from ssn state undone) at in
    let same : mark_of found.0 ≡ mark.Receipt to rsn from ssn = is-mark found.0 found.2 in
    let here = mark-at r.trace j found.0 found.1 ∙ ap (λ m. Some m) same in
    let sent = sent-before r.config.members (marks r) sound.lawful.well_formed j to rsn from ssn here in
    let send = send-at r.trace sent.0 from ssn to sent.2 in
    (sent.0, sent.1, slice_get-map (event_column next r.config.members r.trace) r.trace sent.0 ∙ ap (option_map (event_column next r.config.members r.trace)) send.1) where
      is-mark : (e : Event Note) → event_column next r.config.members r.trace e ≡ Receipt to rsn from ssn state undone → mark_of e ≡ mark.Receipt to rsn from ssn
      is-mark (event.Send q k p note) is = absurd cc
      is-mark (event.Receipt p x q k) is = cc

-- ---- histories

-- sends alone
pub follow_sends : (events : List (Event Note)) → ReceiptsFollowSends (filter_map send_column events)
follow_sends (event.Send q k p note ∷ events) (suc place) to rsn from ssn state undone at =
    (let sent = follow_sends events place to rsn from ssn state undone at in (suc sent.0, omega (arith, sent.1), sent.2, sent.3))
follow_sends (event.Send q k p note ∷ events) zero to rsn from ssn state undone at = absurd cc
follow_sends (event.Receipt p r q k ∷ events) place to rsn from ssn state undone at = follow_sends events place to rsn from ssn state undone at
follow_sends [] place to rsn from ssn state undone at = absurd cc

-- a column that is no receipt, behind the others
pub follow_push : (columns : List Column) (c : Column) → is_receipt c ≡ false → ReceiptsFollowSends columns → ReceiptsFollowSends (columns ++ c ∷ [])
follow_push columns c other follow place to rsn from ssn state undone at = elim (At-push columns c place (Receipt to rsn from ssn state undone) at) [
  | inl old ↦ (let sent = follow place to rsn from ssn state undone old in (sent.0, sent.1, sent.2, At-front columns (c ∷ []) sent.0 (Send from ssn to sent.2) sent.3))
  | inr new ↦ (let clash : is_receipt (Receipt to rsn from ssn state undone) ≡ false = ap is_receipt (sym new.1) ∙ other in absurd cc)
]

pub follow_on : (next : Next ℕ Note) (r : GroupRecord ℕ Note) (columns : List Column) → IsSound next r → ReceiptsFollowSends columns → ReceiptsFollowSends (go_on_to next columns r)
follow_on next r columns sound follow place to rsn from ssn state undone at = elim (was_there columns (trace_columns next r) place (Receipt to rsn from ssn state undone) at) [
  | inl old ↦
      let was = is-receipt old.0 to rsn from ssn state old.2 in
      let sent = follow place to rsn from ssn state was.0 (old.1 ∙ ap (λ c. Some c) was.1) in
      let there = is_there columns (trace_columns next r) sent.0 (Send from ssn to sent.2) sent.3 in
      let now = is-send there.0 from ssn to there.2 in
      (sent.0, sent.1, now.0, there.1 ∙ ap (λ c. Some c) now.1)
  | inr new ↦
      let sent = sent-in-trace next r sound new.0 to rsn from ssn state undone new.1 in
      let found = new.2 sent.0 (Send from ssn to false) sent.1 sent.2 in
      (found.0, found.1, false, found.2)
]

-- ---- where only that each receipt comes after a send of its message is known

-- whether the column is of a send of the message, undone or not
abbrev is_send_of : ℕ → ℕ → ℕ → Column → Bool
is_send_of from ssn to (Send q k p undone) = q == from && (k == ssn && p == to)
is_send_of from ssn to _ = false

sends-it : (from ssn to : ℕ) (c : Column) → is_send_of from ssn to c ≡ true → (gone : Bool) × (c ≡ Send from ssn to gone)
sends-it from ssn to (Send q k p undone) is = (undone, grind (arith, nat_tests))
sends-it from ssn to _ is = absurd cc

-- its first send is before each place before which there is one
pub untruncated : (columns : List Column) → ∥ ReceiptsFollowSends columns ∥₁ → ReceiptsFollowSends columns
untruncated columns follow place to rsn from ssn state undone at =
    let test = is_send_of from ssn to in
    let first = position_or_len test columns in
    let before : first < place = ∥∥₁_elim follow (Prim.hlevel (Coded-set, codes)) (λ given.
    (let sent = given place to rsn from ssn state undone at in
    let passes : test (Send from ssn to sent.2) ≡ true = simp eqb-self in
    grind (arith, nat_tests, fails_before_first test columns sent.0 (Send from ssn to false), get_or_from_slice_get columns sent.0 _ (Send from ssn to false) sent.3, sent.1, passes))) in
    let below : first < length columns = omega (arith, before, At-below columns place (Receipt to rsn from ssn state undone) at) in
    let is = sends-it from ssn to (get_or columns first (Send from ssn to false)) (passes_at_first test columns (Send from ssn to false) below) in
    (first, before, is.0, rw is.1 at (slice_get-get_or columns first (Send from ssn to false) below))
