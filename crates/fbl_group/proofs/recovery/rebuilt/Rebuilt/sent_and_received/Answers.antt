use Rattle.fbl_group.proofs.Common.{◌≡◌, ◌∙◌, ap, arith, length, false, true, List, MemberRecord, blank, get_or, get_or_default, get_or_past, nat_lt, nat_tests, slice_index_or, ℕ}
use Rattle.fbl_group.proofs.recovery.rebuilt.Rebuilt.sent_and_received.Goals as goal

-- a record that is looked up is there, or the place is past the end
within : {S N : Type 0} (outside : S) (ms : List (MemberRecord S N)) {place i : ℕ} {m : MemberRecord S N} → place ≡ i → true ≡ nat_lt place (length ms) → m ≡ get_or ms place m → m ≡ slice_index_or ms i (blank outside)
within outside ms is there read = grind (arith, nat_tests, get_or_default)

past : {S N : Type 0} (outside : S) (ms : List (MemberRecord S N)) {place i : ℕ} → place ≡ i → false ≡ nat_lt place (length ms) → blank outside ≡ slice_index_or ms i (blank outside)
past outside ms is none = grind (arith, nat_tests, get_or_past)

pub returns-in-Some : goal.returns-in-Some
returns-in-Some g c =
    let found = (rw c.deref.ensures.value at c.in-Some.ensures.lookup) in
    let read = within (g.B.Behaviour.next.initial 0 0) _ (c.from.ensures ∙ c.number.ensures.value) found.0 found.1 in
    record { sent = c.sent.ensures.value ∙ ap (λ (m : MemberRecord _ _). length m.log) read; received = c.received.ensures.value ∙ ap (λ (m : MemberRecord _ _). m.received) read }

pub returns-in-None : goal.returns-in-None
returns-in-None g c =
    let none = (rw c.deref.ensures.value at c.in-None.ensures.lookup) in
    let read = past (g.B.Behaviour.next.initial 0 0) _ (c.from.ensures ∙ c.number.ensures.value) none.0 in
    record { sent = ap (λ (m : MemberRecord _ _). length m.log) read; received = ap (λ (m : MemberRecord _ _). m.received) read }
