-- What holds of the states and of the notes in flight, at first and after a delivery: for the proofs of laws of plain networks.
use Rattle.std.proofs.Common.{◌≡◌, ◌≢◌, ℕ, ◌<◌, ◌==◌, ◌&&◌, ◌⊎◌, inl, inr, Bool, true, false, cond, if◌then◌else◌, List, [], drop, get_or, Some, slice_get, arith, subst}
use Rattle.std.specs.List.{All, AllByRecursion}
use Rattle.std.proofs.lemmas.Bool.{cases_eq, eq-eqb, ne_eqb}
use Rattle.std.proofs.lemmas.Bool.Decides.{nat_tests}
use Rattle.std.proofs.lemmas.List.{append-nil}
use Rattle.std.proofs.lemmas.List.Elements.{All-nil, All-append, All-drop, All-contains, All-from_recursion}
use Rattle.std.proofs.lemmas.Option.{slice_get-get_or}
use Rattle.fbl_trace.specs.Configs.{Settings}
use Rattle.fbl_trace.specs.Fold.{Next, starts_of}
use Rattle.fbl_trace.specs.declared.trace.Start.{Start}
use Rattle.fbl_trace.proofs.Gets.{At-filter_map}
use Rattle.fbl_law.proofs.Lists.{Contains-at}
use Rattle.fbl_plain.specs.Plain.{Network, IsPlainStart, IsFront, delivered, sent_to}

-- a list of which each place's element has the predicate
all_at : {X : Type 0} (Q : X → Type 0) (xs : List X) → ((i : ℕ) (x : X) → slice_get xs i ≡ Some x → Q x) → All Q xs
all_at Q xs each i default within = each i (get_or xs i default) (slice_get-get_or xs i default within)

-- the notes sent to a member are those of the sends to it
sent_to-all : {N : Type 0} (Q : ℕ → N → Type 0) (m : ℕ) (sends : List (ℕ × N)) → ((i : ℕ) (s : ℕ × N) → slice_get sends i ≡ Some s → Q s.0 s.1) → All (Q m) (sent_to m sends)
sent_to-all Q m sends each = all_at (Q m) (sent_to m sends) (λ i x here.
    let sent = At-filter_map _ sends i x here in
    let is : (sent.1.0 ≡ m) × (sent.1.1 ≡ x) = grind (arith, nat_tests, sent.3) in
    rw (is.0, is.1) at (each sent.0 sent.1 sent.2))

-- what holds of each start holds of all that is in flight at first
pub flights_first : {S N : Type 0} (next : Next S N) (c : Settings N) (p : Network S N) (Q : ℕ → ℕ → N → Type 0) → IsPlainStart next c p
    → ((i : ℕ) (start : Start N) → slice_get c.starts i ≡ Some start → Q start.from start.to start.note) → (q m : ℕ) → All (Q q m) (p.flight q m)
flights_first next c p Q is each q m = rw (is.flights q m) (sent_to-all (Q q) m (starts_of q c.starts) (λ i s here.
    let start = At-filter_map _ c.starts i s here in
    let own : (start.1.from ≡ q) × (start.1.to ≡ s.0) × (start.1.note ≡ s.1) = grind (arith, nat_tests, start.3) in
    rw (own.0, own.1, own.2) at (each start.0 start.1 start.2)))

-- what holds of all that is in flight to the member holds of the note that is delivered
pub of_front : {S N : Type 0} {n : ℕ} {p : Network S N} {from to : ℕ} {note : N} (Q : N → Type 0) → IsFront n p from to note → All Q (p.flight from to) → Q note
of_front {p = p} {from = from} {to = to} {note = note} Q goes all = All-contains Q (p.flight from to) note all (Contains-at (p.flight from to) 0 note goes.first)

module _ {S N : Type 0} (next : Next S N) (n : ℕ) (p : Network S N) (from to : ℕ) (note : N) where
  -- what holds of each member's state, and of the state that the receiver's step makes, holds of each state after the delivery
  pub states_after : (P : ℕ → S → Type 0) → ((m : ℕ) → m < n → P m (p.state m)) → P to (next.step to n (p.state to) note).state
      → (m : ℕ) → m < n → P m ((delivered next n p from to note).state m)
  states_after P old new m below = elim (cases_eq to m) [
    | inl same ↦ rw (eq-eqb to m same) (subst (λ k. P k (next.step to n (p.state to) note).state) same new)
    | inr other ↦ rw (ne_eqb to m other) (old m below)
  ]

  -- what holds of all that is in flight, and of what the receiver's step sends, holds of all that is in flight after it
  pub flights_after : (Q : ℕ → ℕ → N → Type 0) → ((q m : ℕ) → All (Q q m) (p.flight q m)) → AllByRecursion (λ s. Q to s.0 s.1) (next.step to n (p.state to) note).sends.items
      → (q m : ℕ) → All (Q q m) ((delivered next n p from to note).flight q m)
  flights_after Q old new q m = All-append (Q q m) _ _ (left (from == q && to == m)) (more (cases_eq to q)) where
    left : (takes : Bool) → All (Q q m) (cond takes (drop 1 (p.flight q m)) (p.flight q m))
    left true = All-drop (Q q m) 1 (p.flight q m) (old q m)
    left false = old q m

    more : (to ≡ q) ⊎ (to ≢ q) → All (Q q m) (cond (to == q) (sent_to m (next.step to n (p.state to) note).sends.items) [])
    more (inl same) =
        rw (eq-eqb to q same) (subst (λ k. All (Q k m) (sent_to m (next.step to n (p.state to) note).sends.items)) same
        (sent_to-all (Q to) m _ (λ i s here. All-contains (λ (s : ℕ × N). Q to s.0 s.1) _ s (All-from_recursion _ _ new) (Contains-at _ i s here))))
    more (inr other) = rw (ne_eqb to q other) (All-nil (Q q m))

  -- where the step sends nothing, what is in flight after it is what was, but for the note that is delivered
  pub flight_left : (next.step to n (p.state to) note).sends.items ≡ [] → (q m : ℕ)
      → (delivered next n p from to note).flight q m ≡ (if from == q && to == m then drop 1 (p.flight q m) else p.flight q m)
  flight_left nothing q m = elim (cases_eq to q) [
    | inl same ↦ rw (eq-eqb to q same, nothing) (append-nil _)
    | inr other ↦ rw (ne_eqb to q other) (append-nil _)
  ]
