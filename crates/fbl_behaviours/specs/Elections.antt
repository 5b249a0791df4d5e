-- What a candidate does with an identifier, and what each step keeps.
use Rattle.std.specs.Prelude.{◌≡◌, ℕ, zero, suc, ◌+◌, ◌%◌, ◌<◌, ◌≤◌, ◌==◌, ◌&&◌, ◌⊎◌, nat_lt, max, min, List, [], ◌∷◌, length, if◌then◌else◌}
use Rattle.std.specs.List.{Contains}
use Rattle.std.proofs.Common.{inl, inr, refl, ap, get_or, arith}
use Rattle.std.proofs.lemmas.Bool.{cases_lt}
use Rattle.std.proofs.lemmas.Bool.Decides.{nat_tests}
use Rattle.std.proofs.lemmas.List.Elements.{Contains-get_or}
use Rattle.std.proofs.lemmas.Option.{slice_get-get_or}
use Rattle.fbl_trace.specs.Configs.{Settings, IsConfig}
use Rattle.fbl_trace.specs.Steps.{Next, SendsWell, onward, another_member, has_few_hops}
use Rattle.fbl_law.specs.StepLaws.{HoldsFirst, StepKeeps, StepLosesNone, weight_of_starts}
use Rattle.fbl_trace.specs.declared.trace.Note.{Note}
use Rattle.fbl_trace.specs.declared.trace.Start.{Start}
use Rattle.fbl_trace.specs.declared.outcome.Outcome.{Outcome}
use Rattle.fbl_behaviours.specs.declared.candidate.Standing.{Standing}

-- how many hops a note has left where this is the greatest identifier so far: a greater identifier goes on, the same one goes on as it came, and a smaller one
-- goes no further
abbrev pub hops_left : ℕ → Note → ℕ
hops_left state note = if nat_lt state note.value then note.hops else (if state == note.value && nat_lt 0 state then min (note.hops + 1) 255 else 0)

-- the greater identifier is kept, and a smaller one that comes is counted
abbrev pub stands : Standing → ℕ → Standing
stands state value =
    record { greatest = max state.greatest value; dropped = min (state.dropped + (if nat_lt value state.greatest then 1 else 0)) 4294967295 }

abbrev pub candidate_step : ℕ → ℕ → Standing → Note → Outcome Standing Note
candidate_step me n state note = onward (stands state note.value) ((me + 1) % n) note.value (hops_left state.greatest note)

-- a candidate has taken none at first
abbrev pub candidate_next : Next Standing Note
candidate_next = record { initial = λ me n. record { greatest = 0; dropped = 0 }; step = candidate_step; allowed = has_few_hops }

pub candidate_sends_allowed : SendsWell candidate_next
candidate_sends_allowed me n state note least member = (grind (arith, another_member me n 1), grind arith)

-- a start brings the identifier
abbrev pub IsBrought : Settings Note → ℕ → Type 0
IsBrought c identifier = (start : Start Note) × Contains c.starts start × (start.note.value ≡ identifier)

-- the greatest identifier that a member has taken is one that a start brings, if there is one
abbrev pub HasTaken : Settings Note → ℕ → Standing → Type 0
HasTaken c me state = (state.greatest ≡ 0) ⊎ IsBrought c state.greatest

-- a note has an identifier that a start brings, and no more hops than a start may have
abbrev pub IsPassedOn : Settings Note → ℕ → ℕ → Note → Type 0
IsPassedOn c from to note = IsBrought c note.value × (note.hops ≤ 15)

pub candidate_first : (c : Settings Note) → IsConfig has_few_hops c → HoldsFirst candidate_next c (HasTaken c) (IsPassedOn c)
candidate_first c config = (
  (λ me member. inl refl),
  (λ i default within.
      let start = get_or c.starts i default in
      ((start, Contains-get_or c.starts i default within, refl), grind (arith, nat_tests, (config.starts i start (slice_get-get_or c.starts i default within)).3))),
)

pub candidate_keeps : (c : Settings Note) → IsConfig has_few_hops c → StepKeeps candidate_next c.members (HasTaken c) (IsPassedOn c)
candidate_keeps c config me from state note member taken passed = (takes (cases_lt state.greatest note.value), grind (arith, nat_tests, passed.0, passed.1)) where
  takes : (state.greatest < note.value) ⊎ (note.value ≤ state.greatest) → HasTaken c me (stands state note.value)
  takes (inl less) = (let e : max state.greatest note.value ≡ note.value = omega arith in rw e (inr passed.0))
  takes (inr most) = (let e : max state.greatest note.value ≡ state.greatest = omega arith in rw e taken)

-- the greatest identifier that the starts bring, 0 where there is none
abbrev pub greatest : List (Start Note) → ℕ
greatest [] = 0
greatest (start ∷ starts) = max start.note.value (greatest starts)

greatest-most : (starts : List (Start Note)) (k : ℕ) (default : Start Note) → k < length starts → (get_or starts k default).note.value ≤ greatest starts
greatest-most [] k default within = absurd (omega arith)
greatest-most (start ∷ starts) zero default within = omega arith
greatest-most (start ∷ starts) (suc k) default within = omega (arith, greatest-most starts k default (omega arith))

-- no identifier that a start brings is greater
pub brought-most : (c : Settings Note) (identifier : ℕ) → IsBrought c identifier → identifier ≤ greatest c.starts
brought-most c identifier brought =
    omega (arith, greatest-most c.starts brought.1.0 brought.0 brought.1.1, ap (λ (start : Start Note). start.note.value) brought.1.2, brought.2)

pub taken-most : (c : Settings Note) (me : ℕ) (state : Standing) → HasTaken c me state → state.greatest ≤ greatest c.starts
taken-most c me state (inl none) = omega (arith, none)
taken-most c me state (inr brought) = brought-most c state.greatest brought

-- 1 where the member has taken the greatest identifier
abbrev pub has_greatest : Settings Note → ℕ → Standing → ℕ
has_greatest c me state = if state.greatest == greatest c.starts && nat_lt 0 state.greatest then 1 else 0

-- how many members a note with the greatest identifier is to reach
abbrev pub reaches : Settings Note → Note → ℕ
reaches c note = if note.value == greatest c.starts && nat_lt 0 note.value then note.hops + 1 else 0

pub candidate_loses_none : (c : Settings Note) → IsConfig has_few_hops c → StepLosesNone candidate_next c.members (HasTaken c) (IsPassedOn c) (has_greatest c) (reaches c)
candidate_loses_none c config me from state note member taken passed = grind (arith, nat_tests, brought-most c note.value passed.0, taken-most c me state taken)

-- the greatest identifier is to reach all members
abbrev pub ReachesAll : Settings Note → Type 0
ReachesAll c = c.members ≤ weight_of_starts (reaches c) c
