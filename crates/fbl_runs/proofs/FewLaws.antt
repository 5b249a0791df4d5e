-- No more events of a member stand than there are sends and receipts.
use Rattle.fbl_runs.proofs.Common.{ℕ, zero, suc, Bool, true, false, cond, ◌≡◌, ◌≤◌, ◌+◌, List, [], ◌∷◌, ◌++◌, length, take, Option, Some, None, slice_get, refl, sym, ap, ◌∙◌, arith, length-append, append-nil, filter_map-append, Mark, Receipt, Send, Entry, is_at, log_of, mark_in, marks, restart_in, standing}
use Rattle.std.proofs.Common.{count_by, map, min}
use Rattle.std.specs.Option.{is_some}
use Rattle.std.specs.List.{cons_option}
use Rattle.std.proofs.lemmas.List.{length-map}
use Rattle.std.proofs.lemmas.List.Sums.{count_by-le-length}
use Rattle.fbl_runs.specs.declared.entry.Restart as restart
use Rattle.fbl_runs.specs.declared.lives.StandingEvent.{StandingEvent}
use Rattle.fbl_runs.specs.KnownLives.{AreEvents}
use Rattle.fbl_runs.specs.Lives.{standing_from, stood_after}
use Rattle.fbl_runs.specs.Rules.{entries_at, is_receipt, is_send, next_in}
use Rattle.fbl_trace.proofs.Gets.{length-filter_map}
use Rattle.fbl_runs.proofs.LifeLaws.{get_from_take}
use Rattle.fbl_runs.proofs.DueLaws.{count_standing}

front_few : {X : Type 0} (n : ℕ) (xs : List X) → length (take n xs) ≤ length xs
front_few zero xs = omega arith
front_few (suc n) [] = omega arith
front_few (suc n) (x ∷ xs) = (let rest = front_few n xs in omega (arith, rest))

-- one entry more keeps at most one event more
stood_few : (r : Option restart.Restart) (m : Option Mark) (number : ℕ) (stood : List ℕ) (ms : List Mark) → length (stood_after r m number stood) + length ms ≤ length stood + length (cons_option m ms)
stood_few (Some r) (Some m) number stood ms = (let front = front_few (r.receipts + r.sends) stood in omega (arith, front))
stood_few (Some r) None number stood ms = (let front = front_few (r.receipts + r.sends) stood in omega (arith, front))
stood_few None (Some m) number stood ms = (let more = length-append stood (number ∷ []) in omega (arith, more))
stood_few None None number stood ms = omega arith

standing_from_few : (stood : List ℕ) (number : ℕ) (log : List Entry) → length (standing_from stood number log) ≤ length stood + length (marks log)
standing_from_few stood number [] = omega arith
standing_from_few stood number (e ∷ log) =
    let rest = standing_from_few (stood_after (restart_in e) (mark_in e) number stood) (number + 1) log in
    let one = stood_few (restart_in e) (mark_in e) number stood (marks log) in
    omega (arith, rest, one)

-- nor has a member's log more of them
marks_few : (m : ℕ) (entries : List Entry) → length (marks (log_of entries m)) ≤ length (marks entries)
marks_few m [] = omega arith
marks_few m (e ∷ entries) = by_test (is_at m e) (marks_few m entries) where
  more : (o : Option Mark) (ms ns : List Mark) → length ms ≤ length ns → length (cons_option o ms) ≤ length (cons_option o ns)
  more (Some x) ms ns few = omega (arith, few)
  more None ms ns few = few

  less : (o : Option Mark) (ms ns : List Mark) → length ms ≤ length ns → length ms ≤ length (cons_option o ns)
  less (Some x) ms ns few = omega (arith, few)
  less None ms ns few = few

  by_test : (b : Bool) → length (marks (log_of entries m)) ≤ length (marks entries)
      → length (marks (cond b (e ∷ log_of entries m) (log_of entries m))) ≤ length (marks (e ∷ entries))
  by_test true few = more (mark_in e) (marks (log_of entries m)) (marks entries) few
  by_test false few = less (mark_in e) (marks (log_of entries m)) (marks entries) few

pub standing_few : (before : List Entry) (m : ℕ) → length (standing (log_of before m)) ≤ length (marks before)
standing_few before m = (let a = standing_from_few [] 0 (log_of before m) in let b = marks_few m before in omega (arith, a, b))

-- so many events stand as are known
pub events_count : (log : List Entry) (kept : List ℕ) (events : List StandingEvent) → AreEvents log kept events → length events ≡ length kept
events_count log kept events are = sym (length-map events (λ (e : StandingEvent). e.number)) ∙ ap (λ (ks : List ℕ). length ks) are.numbers

-- no more of those that stand pass a test than there are sends and receipts
count_few : (p : Entry → Bool) (before : List Entry) (m : ℕ) → count_by p (entries_at (log_of before m) (standing (log_of before m))) ≤ length (marks before)
count_few p before m =
    let log = log_of before m in
    let a = count_by-le-length p (entries_at log (standing log)) in
    let b = length-filter_map (slice_get log) (standing log) in
    let d = standing_few before m in
    omega (arith, a, b, d)

pub next_few : (before : List Entry) (m : Mark) → next_in (log_of before) m ≤ length (marks before) + 1
next_few before (Send from ssn to) = (let few = count_few is_send before from in omega (arith, few))
next_few before (Receipt to rsn from ssn) = (let few = count_few is_receipt before to in omega (arith, few))

-- so the next number is small
pub next_small : (p : Entry → Bool) (before : List Entry) (m count next : ℕ) (events : List StandingEvent) → AreEvents (log_of before m) (standing (log_of before m)) events
    → count ≡ count_by (λ (e : StandingEvent). p e.entry) events → length (marks before) ≤ 8192 → next ≡ min (count + 1) 18446744073709551615
    → next ≡ count_by p (entries_at (log_of before m) (standing (log_of before m))) + 1
next_small p before m count next events are is few next_is =
    let same = count_standing p (log_of before m) (standing (log_of before m)) events are in
    let small = count_few p before m in
    omega (arith, same, small, is, few, next_is)

-- the first of the events are those that a restart keeps
pub events_front : (log : List Entry) (kept : List ℕ) (events : List StandingEvent) (n : ℕ) → AreEvents log kept events → AreEvents log (take n kept) (take n events)
events_front log kept events n are = record {
  numbers = front n events ∙ ap (λ (ks : List ℕ). take n ks) are.numbers;
  entries = λ i e here. are.entries i e (get_from_take n events i e here);
} where
  front : (n : ℕ) (es : List StandingEvent) → map (λ (e : StandingEvent). e.number) (take n es) ≡ take n (map (λ (e : StandingEvent). e.number) es)
  front zero es = refl
  front (suc n) [] = refl
  front (suc n) (e ∷ es) = ap (λ (ks : List ℕ). e.number ∷ ks) (front n es)

-- how many sends and receipts there are, with one entry more
pub marks_more : (before : List Entry) (e : Entry) (o : Option Mark) → o ≡ mark_in e → is_some o ≡ true → ((m : Mark) × (mark_in e ≡ Some m)) × (length (marks (before ++ e ∷ [])) ≡ length (marks before) + 1)
marks_more before e None is yes' = cc
marks_more before e (Some m) is yes' = ((m, sym is), (rw (filter_map-append mark_in before (e ∷ []), sym is) (length-append (marks before) (m ∷ []))))

pub marks_same : (before : List Entry) (e : Entry) (o : Option Mark) → o ≡ mark_in e → is_some o ≡ false → length (marks (before ++ e ∷ [])) ≡ length (marks before)
marks_same before e None is no' = (rw (filter_map-append mark_in before (e ∷ []), sym is, append-nil) refl)
marks_same before e (Some m) is no' = cc
