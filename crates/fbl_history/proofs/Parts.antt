-- The columns of a part of a trace are those of the same events in the whole one.
use Rattle.fbl_trace.specs.declared.trace.Event.TheVariants as event
use Rattle.fbl_trace.specs.declared.trace.Note.{Note}
use Rattle.fbl_history.proofs.Common.{◌≡◌, ℕ, zero, suc, ◌≤◌, List, [], ◌∷◌, length, map, take, Some, slice_get, refl, subst, arith, Determinant, Event, Mark, mark_of, receipt_of}
use Rattle.fbl_history.proofs.Common.{Has, Has-receipts_at, Next, WellFormed, event_column, length-receipts_at, mark-at, note-at, note_of, receipt-at, receipt-number, receipts-noted, receipts_at, receipts_at-Has}
use Rattle.fbl_history.proofs.Common.{received_notes, some-at, take-more}

-- functions that agree at each place make the same
pub map-agree : {X Y : Type 0} (f g : X → Y) (xs : List X) → ((i : ℕ) (x : X) → slice_get xs i ≡ Some x → f x ≡ g x) → map f xs ≡ map g xs
map-agree f g [] same = refl
map-agree f g (x ∷ xs) same = rw (same 0 x refl, map-agree f g xs (λ i y here. same (suc i) y here)) refl

-- the events of the first trace are of the second one, too, with their notes, and both obey the rules
pub record IsPart (n : ℕ) (part whole : List (Event Note)) : Type 0 where
  pub obeys : WellFormed n (map mark_of part)
  pub whole_obeys : WellFormed n (map mark_of whole)
  pub has : (e : Mark) → Has (map mark_of part) e → Has (map mark_of whole) e
  pub notes : (q k : ℕ) (x : Note) → note_of part q k ≡ Some x → note_of whole q k ≡ Some x

module _ {n : ℕ} {part whole : List (Event Note)} (is : IsPart n part whole) where
  -- what a trace has of a member's receipt
  noted : (t : List (Event Note)) → WellFormed n (map mark_of t) → (p j : ℕ) (d : Determinant) → slice_get (receipts_at (map mark_of t) p) j ≡ Some d
      → (x : Note) × (note_of t d.from d.ssn ≡ Some x) × (slice_get (received_notes t p) j ≡ Some x)
  noted t obeys p j d here =
      let has = receipts_at-Has n (map mark_of t) p j d obeys here in
      let note = receipts-noted n t obeys has.0.0 d.to d.rsn d.from d.ssn (receipt-at t has.0.0 d.to d.rsn d.from d.ssn has.0.1) in
      (note.0, note.1, note-at n t p j d note.0 obeys here note.1)

  -- the first notes of a member are those that it has in the whole trace
  same-notes : (p k : ℕ) → k ≤ length (receipts_at (map mark_of part) p) → take k (received_notes part p) ≡ take k (received_notes whole p)
  same-notes p zero few = refl
  same-notes p (suc k) few =
      let d = some-at (receipts_at (map mark_of part) p) k (omega arith) in
      let has = receipts_at-Has n (map mark_of part) p k d.0 is.obeys d.1 in
      let here = Has-receipts_at n (map mark_of whole) p k d.0 is.whole_obeys (is.has (receipt_of d.0) has.0) has.1 has.2 in
      let was = noted part is.obeys p k d.0 d.1 in
      let now = noted whole is.whole_obeys p k d.0 here in
      let note : was.0 ≡ now.0 = (let both = is.notes d.0.from d.0.ssn was.0 was.1 in cc) in
      rw (
        take-more (received_notes part p) k now.0 (subst (λ x. slice_get (received_notes part p) k ≡ Some x) note was.2),
        take-more (received_notes whole p) k now.0 now.2,
        same-notes p k (omega (arith, few)),
      )
      refl

  same-column : (next : Next ℕ Note) (i : ℕ) (e : Event Note) → slice_get part i ≡ Some e → event_column next n part e ≡ event_column next n whole e
  same-column next i (event.Send q k p note) here = refl
  same-column next i (event.Receipt p r q k) here =
      let number = receipt-number n (map mark_of part) p r q k is.obeys (i, mark-at part i (event.Receipt p r q k) here) in
      rw (same-notes p r (omega (arith, number, length-receipts_at (map mark_of part) p))) refl

  pub same_columns : (next : Next ℕ Note) → map (event_column next n part) part ≡ map (event_column next n whole) part
  same_columns next = map-agree _ _ part (same-column next)
