-- A history of a group that goes on after a delivery has the columns of the delivery behind it.
use Rattle.fbl_trace.specs.declared.trace.Event.TheVariants as event
use Rattle.fbl_trace.specs.declared.trace.Note.{Note}
use Rattle.fbl_history.proofs.Common.{◌≡◌, ℕ, ◌+◌, false, List, [], ◌∷◌, ◌++◌, length, map, ◌<◌, refl, sym, ap, ◌∙◌, arith, filter_map}
use Rattle.fbl_history.proofs.Common.{At-front, Column, Event, GroupRecord, IsDelivery, IsHistoryOf, IsSound, Message, Next, Receipt, Send, SendsWell, delivery_events, event_column, go_on, go_on_to}
use Rattle.fbl_history.proofs.Common.{group_delivery_keeps, is_receipt, blank, get_or-set_same, MemberRecord, Settings, receiver, length-received_notes, length-receipts_at, map-append, mark_of, marks, member, note_of-front, received_counted}
use Rattle.fbl_history.proofs.Common.{received_notes, receipts_made, send_column, standing, state_after, state_after_receipt, step_events, step_of, take_all, trace_columns, up_if_none, up_state}
use Rattle.fbl_history.proofs.Counting.{count-cons, counted_from, made-append}
use Rattle.fbl_history.proofs.Cutting.{lies-past, same-self}
use Rattle.fbl_history.proofs.Parts.{IsPart, same_columns}
use Rattle.fbl_history.proofs.Standing.{standing_is_trace}

-- what goes on to its standing events and more stays, with more behind it
pub go_on_more : (columns more : List Column) → go_on columns (standing columns ++ more) ≡ columns ++ more
go_on_more [] more = refl
go_on_more (column ∷ columns) more = grind (arith, go_on_more columns more, same-self column, lies-past column (standing columns ++ more))

-- the columns of a step's sends
pub sends-columns : (next : Next ℕ Note) (n : ℕ) (trace : List (Event Note)) (p before : ℕ) (sends : List (ℕ × Note))
    → map (event_column next n trace) (step_events p before sends) ≡ filter_map send_column (step_events p before sends)
sends-columns next n trace p before [] = refl
sends-columns next n trace p before (s ∷ sends) = ap (λ xs. Send p (before + 1) s.0 false ∷ xs) (sends-columns next n trace p (before + 1) sends)

-- which are of no receipts
pub made_none : (events : List (Event Note)) → receipts_made (filter_map send_column events) ≡ 0
made_none [] = refl
made_none (event.Send q k p note ∷ events) = omega (arith, made_none events, count-cons is_receipt (Send q k p false) (filter_map send_column events))
made_none (event.Receipt p r q k ∷ events) = made_none events

module _ (next : Next ℕ Note) (old new : GroupRecord ℕ Note) (v : Message Note) (well : SendsWell next) (sound : IsSound next old) (step : IsDelivery next old new v) where
  pub sound-new : IsSound next new
  sound-new = group_delivery_keeps next old new v well step sound

  part : IsPart old.config.members old.trace new.trace
  part = record {
    obeys = sound.lawful.well_formed;
    whole_obeys = rw step.config at sound-new.lawful.well_formed;
    has = λ e there. (there.0, rw (step.trace, map-append) (At-front (marks old) (map mark_of (delivery_events next old v)) there.0 e there.1));
    notes = λ q k x is. rw step.trace (note_of-front old.trace (delivery_events next old v) q k x is);
  }

  -- the columns of the delivery
  abbrev pub columns_added : List Column
  columns_added =
      Receipt v.to ((member old v.to).received + 1) v.from v.ssn (step_of next old v).state false
      ∷ filter_map send_column (step_events v.to (length (member old v.to).log) (step_of next old v).sends.items)

  pub receiver-now : member new v.to ≡ receiver next old v
  receiver-now = rw step.members (get_or-set_same old.members v.to (receiver next old v) (blank new.outside) (omega (arith, step.to_member, sound.members)))

  state-now : state_after_receipt next old.config.members new.trace v.to ((member old v.to).received + 1) ≡ (step_of next old v).state
  state-now =
      let below : v.to < new.config.members = rw step.config step.to_member in
      let up = up_if_none (step.down ∙ step.nobody_down) v.to in
      let count : length (received_notes new.trace v.to) ≡ (member old v.to).received + 1 =
      length-received_notes new.config.members new.trace v.to sound-new.lawful.well_formed ∙ length-receipts_at (marks new) v.to
      ∙ sym (received_counted next new sound-new v.to below up) ∙ ap (λ (m : MemberRecord ℕ Note). m.received) receiver-now in
      ap (state_after next v.to old.config.members) (take_all ((member old v.to).received + 1) (received_notes new.trace v.to) (omega (arith, count)))
      ∙ sym (rw step.config at (up_state next new sound-new v.to below up)) ∙ ap (λ (m : MemberRecord ℕ Note). m.state) receiver-now

  pub trace_more : trace_columns next new ≡ trace_columns next old ++ columns_added
  trace_more =
      let column = event_column next old.config.members new.trace in
      ap (λ (c : Settings Note). map (event_column next c.members new.trace) new.trace) step.config
      ∙ ap (map column) step.trace
      ∙ map-append column old.trace (delivery_events next old v)
      ∙ (λ i. sym (same_columns part next) i
      ++ Receipt v.to ((member old v.to).received + 1) v.from v.ssn (state-now i) false
      ∷ sends-columns next old.config.members new.trace v.to (length (member old v.to).log) (step_of next old v).sends.items i)

  pub gone_on : (columns : List Column) → IsHistoryOf next old columns → go_on_to next columns new ≡ columns ++ columns_added
  gone_on columns history = ap (go_on columns) (trace_more ∙ ap (λ xs. xs ++ columns_added) (sym history.standing)) ∙ go_on_more columns columns_added

  pub follows_delivery : (columns : List Column) → IsHistoryOf next old columns → IsHistoryOf next new (go_on_to next columns new)
  follows_delivery columns history =
      let made = ap receipts_made (gone_on columns history) ∙ made-append columns columns_added in
      counted_from next new (go_on_to next columns new) sound-new (standing_is_trace next new columns) (omega (arith, made, count-cons, made_none, history.counted.0, step.receipts_ever))
