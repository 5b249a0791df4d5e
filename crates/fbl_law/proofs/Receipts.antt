-- A member's receipts in a trace, in order, and the numbers of its events; that events that are appended are new.
use Rattle.fbl_law.proofs.Common.{append_assoc, ◌≡◌, ℕ, List, [], ◌∷◌, ◌++◌, arith, Some, Mark, Has, MayFollow, WellFormed, At-front, At-below, one_place, WellFormed-front, MayFollow-last, suc, ◌+◌}
use Rattle.fbl_law.proofs.Common.{◌≤◌, ◌==◌, cond, length, map, Option, slice_get, refl, ap, take, drop, ◌<◌, length-take, filter_map, fold, nat_tests, length-map, take-append-drop, sum_by-cons}
use Rattle.fbl_law.proofs.Common.{slice_get-map, Determinant, Event, At, mark_of, determinant_of, receipt_of, is_receipt_of, receipts_of, taken_on, action_of, notes_of, note_of, filter_map-At}
use Rattle.fbl_law.proofs.Common.{At-filter, At-filter_map, WellFormed-take, receipts-noted, received_notes, receipts_at, is_receipt, WellFormed-keeps, filter-append, filter_map-append, Send, Receipt}
use Rattle.fbl_law.proofs.Common.{At-push, append-nil, Bool, count_by, sum_by-append, is_send_of, sends_of, Knowledge, IsBeforeCheckpoint, take-append-add, checkpoint, noted}
use Rattle.fbl_trace.specs.declared.trace.Event.TheVariants as event
use Rattle.fbl_law.proofs.Lists.{At-behind, some-at, filter-At, filter-passes}

-- each event of a trace that obeys the rules may follow those before it
pub MayFollow-seam : (n : ℕ) (t : List Mark) (e : Mark) (rest : List Mark) → WellFormed n (t ++ e ∷ rest) → MayFollow n t e
MayFollow-seam n t e rest obeys = MayFollow-last n t e (WellFormed-front n (t ++ e ∷ []) rest (rw append_assoc obeys))

-- the events that are appended to a trace are new
pub disjoint : (n : ℕ) (t added : List Mark) → WellFormed n (t ++ added) → (e : Mark) → Has added e → ¬ (Has t e)
disjoint n t added obeys e new old =
    let r = At-behind t added new.0 e new.1 in
    omega (arith, At-below t old.0 e old.1, r.1, one_place n (t ++ added) obeys e old.0 r.0 (At-front t added old.0 e old.1) r.2)

-- how many they are
pub length-receipts_at : (t : List Mark) (p : ℕ) → length (receipts_at t p) ≡ receipts_of t p
length-receipts_at [] p = refl
length-receipts_at (e ∷ t) p = grind (arith, sum_by-cons (λ y. cond (is_receipt_of p y) 1 0) e t, length-receipts_at t p)

-- a member's receipts are numbered from 1
receipts_at-number : (n : ℕ) (t : List Mark) (p j : ℕ) (d : Determinant) → WellFormed n t → slice_get (receipts_at t p) j ≡ Some d → d.rsn ≡ j + 1
receipts_at-number n t p j d obeys = WellFormed-keeps n (λ u. (j : ℕ) → slice_get (receipts_at u p) j ≡ Some d → d.rsn ≡ j + 1) (λ j here. absurd cc) more t obeys j where
  more : (u : List Mark) (e : Mark) → WellFormed n u → MayFollow n u e → ((j : ℕ) → slice_get (receipts_at u p) j ≡ Some d → d.rsn ≡ j + 1)
      → (j : ℕ) → slice_get (receipts_at (u ++ e ∷ []) p) j ≡ Some d → d.rsn ≡ j + 1
  more u e obeys_u may before j here = search (arith, filter_map-append, append-nil, filter-append, At-push, length-receipts_at)

-- they are in the trace, and the member's
pub receipts_at-Has : (n : ℕ) (t : List Mark) (p j : ℕ) (d : Determinant) → WellFormed n t → slice_get (receipts_at t p) j ≡ Some d
    → Has t (receipt_of d) × (d.to ≡ p) × (d.rsn ≡ j + 1)
receipts_at-Has n t p j d obeys here = search (arith, At-filter, At-filter_map, filter-passes, is_receipt, receipts_at-number n t p j d obeys here)

-- and each receipt of the member is among them, at its number
pub Has-receipts_at : (n : ℕ) (t : List Mark) (p j : ℕ) (d : Determinant) → WellFormed n t → Has t (receipt_of d) → d.to ≡ p → d.rsn ≡ j + 1
    → slice_get (receipts_at t p) j ≡ Some d
Has-receipts_at n t p j d obeys has to number =
    let a = filter_map-At determinant_of t has.0 (receipt_of d) d has.1 refl in
    let b = filter-At (λ (x : Determinant). x.to == p) (filter_map determinant_of t) a.0 d a.1 (grind (arith, nat_tests)) in
    let same : b.0 ≡ j = omega (arith, receipts_at-number n t p b.0 d obeys b.1, number) in
    rw same at b.1

-- where each receipt of a member is numbered at most k, it has at most k
pub at-most : (n : ℕ) (t : List Mark) (p k : ℕ) → WellFormed n t → ((d : Determinant) → Has t (receipt_of d) → d.to ≡ p → d.rsn ≤ k) → length (receipts_at t p) ≤ k
at-most n t p k obeys all = omega (arith, few) where
  few : ¬ (k < length (receipts_at t p))
  few more = (let d = some-at (receipts_at t p) k more in search (arith, d, receipts_at-Has n t p k d.0 obeys d.1))

-- so before a place too
pub at-most-before : (n : ℕ) (t : List Mark) (p k j : ℕ) → WellFormed n t → ((i : ℕ) (d : Determinant) → i < j → At t i (receipt_of d) → d.to ≡ p → d.rsn ≤ k)
    → receipts_of (take j t) p ≤ k
at-most-before n t p k j obeys all =
    search (arith, at-most n (take j t) p k (WellFormed-take n j t obeys), At-below (take j t), take-append-drop, At-front (take j t) (drop j t), length-take j t, length-receipts_at (take j t) p)

module _ {N : Type 0} where
  -- their notes
  notes-at : (all u : List (Event N)) (p : ℕ) → ((i to rsn from ssn : ℕ) → slice_get u i ≡ Some (event.Receipt to rsn from ssn) → (note : N) × (note_of all from ssn ≡ Some note))
      → map (λ (x : N). Some x) (notes_of (filter_map (action_of all p) u)) ≡ map (λ (d : Determinant). note_of all d.from d.ssn) (receipts_at (map mark_of u) p)
  notes-at all [] p noted = refl
  notes-at all (event.Send q k to x ∷ u) p noted = grind (arith, notes-at all u p (λ i. noted (suc i)))
  notes-at all (event.Receipt to r q k ∷ u) p noted = (let note = (noted 0 to r q k refl).1 in grind (arith, note, notes-at all u p (λ i. noted (suc i))))

  -- in a trace that obeys the rules a member's notes are those of its receipts
  pub received-notes : (n : ℕ) (t : List (Event N)) (p : ℕ) → WellFormed n (map mark_of t)
      → map (λ (x : N). Some x) (received_notes t p) ≡ map (λ (d : Determinant). note_of t d.from d.ssn) (receipts_at (map mark_of t) p)
  received-notes n t p obeys = notes-at t t p (receipts-noted n t obeys)

  pub length-received_notes : (n : ℕ) (t : List (Event N)) (p : ℕ) → WellFormed n (map mark_of t) → length (received_notes t p) ≡ length (receipts_at (map mark_of t) p)
  length-received_notes n t p obeys = simp length-map at (ap length (received-notes n t p obeys))

  pub note-at : (n : ℕ) (t : List (Event N)) (p j : ℕ) (d : Determinant) (x : N) → WellFormed n (map mark_of t)
      → slice_get (receipts_at (map mark_of t) p) j ≡ Some d → note_of t d.from d.ssn ≡ Some x → slice_get (received_notes t p) j ≡ Some x
  note-at n t p j d x obeys here noted =
      let named = slice_get-map (λ (c : Determinant). note_of t c.from c.ssn) (receipts_at (map mark_of t) p) j in
      let same = ap (λ (xs : List (Option N)). slice_get xs j) (received-notes n t p obeys) in
      grind (arith, slice_get-map (λ (y : N). Some y) (received_notes t p) j, same, named)

-- the last message from q that the member's receipts take
pub last-from : (q p z : ℕ) (t : List Mark) → fold (λ last ssn. ssn) z (filter_map (taken_on q p) t) ≡ fold (λ last (d : Determinant). cond (d.from == q) d.ssn last) z (receipts_at t p)
last-from q p z [] = refl
last-from q p z (e ∷ t) = grind (arith, last-from q p z t, λ (k : ℕ). last-from q p k t)

-- the events appended have numbers beyond those of the trace before
module _ {S N : Type 0} (n : ℕ) (r : Knowledge S N) (added : List Mark) (obeys : WellFormed n (r.trace ++ added))
    (kept : (m : ℕ) → m < n → ((checkpoint r m).received ≤ receipts_of r.trace m) × (length (checkpoint r m).log ≤ sends_of r.trace m)) where
  -- an event appended may follow a trace that counts no less than the trace before
  follows : (e : Mark) → Has added e → (t : List Mark) × MayFollow n t e × ((p : Mark → Bool) → count_by p r.trace ≤ count_by p t)
  follows e new =
      let place = At-behind r.trace added new.0 e new.1 in
      let may = rw (place.1, take-append-add r.trace added new.0) at (obeys place.0 e place.2) in
      (r.trace ++ take new.0 added, may, λ p. omega (arith, sum_by-append (λ y. cond (p y) 1 0) r.trace (take new.0 added)))

  pub added-later : (e : Mark) → Has added e → ¬ (IsBeforeCheckpoint r e)
  added-later (Send q k p) new reached = (let after = follows (Send q k p) new in omega (arith, after.1.3, after.2 (is_send_of q), (kept q after.1.0).1, reached))
  added-later (Receipt p k q s) new reached = (let after = follows (Receipt p k q s) new in omega (arith, after.1.3, after.2 (is_receipt_of p), (kept p after.1.1).0, reached))
