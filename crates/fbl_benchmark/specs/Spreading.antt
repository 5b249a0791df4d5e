-- What the behaviour does that answers a message by four.
use Rattle.std.specs.Prelude.{◌≡◌, ◌≢◌, ℕ, ◌+◌, ◌-◌, ◌%◌, ◌<◌, ◌≤◌, List, [], ◌∷◌, length, if◌then◌else◌, ◌==◌, nat_lt}
use Rattle.std.specs.List.{All}
use Rattle.std.proofs.Common.{Bool, true, false, cond, refl, arith, lit≤}
use Rattle.std.proofs.lemmas.Bool.Decides.{nat_tests}
use Rattle.std.proofs.lemmas.List.Elements.{All-cons, All-nil}
use Rattle.fbl_trace.specs.Steps.{Next, SendsWell, numbered_from_0, relay_step, another_member}
use Rattle.fbl_trace.specs.Numeric.{IsNumeric, by_sends}
use Rattle.fbl_trace.specs.declared.trace.Note.{Note}
use Rattle.fbl_trace.specs.declared.outcome.Outcome.{Outcome}

-- the same content for each of the next four members
abbrev pub to_next_four : ℕ → ℕ → Note → List (ℕ × Note)
to_next_four me n note = ((me + 1) % n, note) ∷ ((me + 2) % n, note) ∷ ((me + 3) % n, note) ∷ ((me + 4) % n, note) ∷ []

-- a relay's new state, and the message with one hop fewer to each of the next four members, if it has hops left. A group of
-- less than five sends nothing
abbrev pub spread_step : ℕ → ℕ → ℕ → Note → Outcome ℕ Note
spread_step me n state note = record {
  state = (relay_step me n state note).state;
  sends = record { items = (if note.hops == 0 then [] else (if nat_lt n 5 then [] else to_next_four me n (record { value = note.value; hops = note.hops - 1 }))) };
}

abbrev pub spread_next : Next ℕ Note
spread_next = numbered_from_0 spread_step

allowed : (me n : ℕ) (last few : Bool) (note : Note) → me < n → nat_lt n 5 ≡ few → All (λ (s : ℕ × Note). (s.0 < n) × (s.0 ≢ me)) (cond last [] (cond few [] (to_next_four me n note))) × (length (cond last [] (cond few [] (to_next_four me n note))) ≤ 4)
allowed me n true few note member is = (All-nil (λ (s : ℕ × Note). (s.0 < n) × (s.0 ≢ me)), lit≤ tt)
allowed me n false true note member is = (All-nil (λ (s : ℕ × Note). (s.0 < n) × (s.0 ≢ me)), lit≤ tt)
allowed me n false false note member is =
    let many : 5 ≤ n = grind (arith, nat_tests) in
    let send : ℕ → ℕ × Note = λ (by : ℕ). ((me + by) % n, note) in
    let goes_on : ℕ × Note → Type 0 = λ (s : ℕ × Note). (s.0 < n) × (s.0 ≢ me) in
    let other : (by : ℕ) → 0 < by → by < n → goes_on (send by) = λ by more less. (omega arith, another_member me n by member more less) in
    let fourth : All goes_on (send 4 ∷ []) = All-cons goes_on (send 4) [] (other 4 (omega arith) (omega arith)) (All-nil goes_on) in
    let third : All goes_on (send 3 ∷ send 4 ∷ []) = All-cons goes_on (send 3) (send 4 ∷ []) (other 3 (omega arith) (omega arith)) fourth in
    let second : All goes_on (send 2 ∷ send 3 ∷ send 4 ∷ []) = All-cons goes_on (send 2) (send 3 ∷ send 4 ∷ []) (other 2 (omega arith) (omega arith)) third in
    (All-cons goes_on (send 1) (send 2 ∷ send 3 ∷ send 4 ∷ []) (other 1 (omega arith) (omega arith)) second, lit≤ tt)

spread_sends_allowed : SendsWell spread_next
spread_sends_allowed me n state note least member = allowed me n (note.hops == 0) (nat_lt n 5) (record { value = note.value; hops = note.hops - 1 }) member refl

pub spread_laws : IsNumeric spread_next
spread_laws = by_sends spread_sends_allowed
