-- Which determinants a trace has, and whose its events are.
use Rattle.fbl_trace.proofs.Common.{ℕ, ◌≡◌, ◌||◌, refl, Decides, Any-from_list_any, list_any-from_Any, Determinant}
use Rattle.fbl_trace.proofs.Common.{same_determinant, ◌+◌, ◌<◌, true, List, [], ◌∷◌, length, take, get_or, Some, ap, ◌∙◌, list_any, cons_option, take_more, list_any-append}
use Rattle.fbl_trace.proofs.Common.{filter_map-append, get_or_from_slice_get, Mark, determinant_of, Has, is_received, slice_get-get_or, receipt_of, receipts}
use Rattle.fbl_trace.proofs.Common.{At, WellFormed, member_of, Send, Receipt}
use Rattle.fbl_trace.proofs.Gets.{At-below, At-filter_map, filter_map-At}
use Rattle.fbl_trace.proofs.RulesLaws.{Decides-same_determinant, is_receipt}

pub more : (events : List Mark) (i : ℕ) (e : Mark) (d : Determinant) → i < length events → e ≡ get_or events i e
    → is_received (take (i + 1) events) d ≡ (is_received (take i events) d || list_any (λ x. same_determinant x d) (cons_option (determinant_of e) []))
more events i e d below is = rw (take_more events i e below, ← is, filter_map-append determinant_of (take i events) (e ∷ []), list_any-append (λ x. same_determinant x d))

-- the test means that the events have the receipt
pub Decides-is_received : (events : List Mark) (d : Determinant) → Decides (is_received events d) (Has events (receipt_of d))
Decides-is_received events d = (has, received) where
  has : is_received events d ≡ true → Has events (receipt_of d)
  has h =
      let a = Any-from_list_any (λ x. same_determinant x d) (receipts events) h in
      let same : a.1 ≡ d = (Decides-same_determinant a.1 d).0 a.4 in
      let b = At-filter_map determinant_of events a.0 a.1 (slice_get-get_or (receipts events) a.0 a.1 a.2 ∙ ap Some a.3) in
      (b.0, b.2 ∙ ap Some (is_receipt b.1 a.1 b.3 ∙ ap receipt_of same))

  received : Has events (receipt_of d) → is_received events d ≡ true
  received has' =
      let a = filter_map-At determinant_of events has'.0 (receipt_of d) d has'.1 refl in
      list_any-from_Any (λ x. same_determinant x d) (receipts events)
      (a.0, d, At-below _ a.0 d a.1, get_or_from_slice_get (receipts events) a.0 d d a.1, (Decides-same_determinant d d).1 refl)

-- ---- members

-- an event is one of the group's members
pub member_below : (n : ℕ) (t : List Mark) (i : ℕ) (e : Mark) → WellFormed n t → At t i e → member_of e < n
member_below n t i (Send from ssn to) obeys at = (obeys i (Send from ssn to) at).0
member_below n t i (Receipt to rsn from ssn) obeys at = (obeys i (Receipt to rsn from ssn) at).1
