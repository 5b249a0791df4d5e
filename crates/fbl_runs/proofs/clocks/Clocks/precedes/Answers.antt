use Rattle.fbl_runs.proofs.Common.{◌≡◌, ◌≤◌, ◌∙◌, Position, Some, arith, false≢true, length, refl, slice_get, slice_get_read, nat_tests, sym}
use Rattle.fbl_runs.specs.Clocks.{StandsAt}
use Rattle.fbl_runs.proofs.ClockPasses.{precedes_kept, precedes_own}
use Rattle.fbl_runs.proofs.clocks.Clocks.precedes.Goals as goal
use Rattle.fbl_runs.proofs.clocks.Clocks.precedes.Goals.{After-is_counted, After-kept, else-is_counted-via-then-is_counted+else-number-link, else-is_counted-via-else-is_counted}

-- with what the first entry is counted
counted : (c : After-is_counted) → slice_get c.args.self.now.columns.items c.args.first ≡ Some c.in-Some.column.now
counted c =
    let xs = c.args.self.now.columns.items in
    let same = c.deref.ensures.value in
    let is = c.in-Some.ensures.lookup in
    slice_get_read xs (length xs) c.args.first c.in-Some.column.now refl (rw same at is.3.0) (rw same at is.1)

pub returns-then-number-link : goal.returns-then-number-link
returns-then-number-link c causality i j are at_i at_j =
    let first = (c.link-number.ensures i at_i).number in
    let second = (c.link.ensures j at_j).number in
    let behind = c.if-number-link.true in
    let p = precedes_own causality c.args.index.now c.args.self.now are c.args.first c.args.second i j at_i at_j c.in-Some.column.now
    (counted (goal.at.returns-then-number-link c).After-is_counted) (c.is_counted.ensures.0 c.if-is_counted.true) (omega (arith, first, second, behind)) in
    (λ is. p, λ q. refl)

-- the second is not counted with it, or comes before
not_own : (c : After-kept) (i j : Position) → StandsAt c.args.index.now c.args.first i → StandsAt c.args.index.now c.args.second j
    → ¬ ((slice_get c.args.self.now.columns.items c.args.second ≡ Some c.in-Some.column.now) × (i.number ≤ j.number))
not_own c i j at_i at_j own = elim c.else-is_counted.branch [
  | else-is_counted-via-then-is_counted+else-number-link w ↦
      let first = (c.link-number.ensures i at_i).number in
      let second = (w.link.ensures j at_j).number in
      let past = w.if-number-link.false in
      absurd (omega (arith, first, second, past, own.1))
  | else-is_counted-via-else-is_counted w ↦ absurd (false≢true (sym w.if-is_counted.false ∙ c.is_counted.ensures.1 own.0))
]

pub returns-in-Some-kept : goal.returns-in-Some-kept
returns-in-Some-kept c causality i j are at_i at_j =
    let c2 = (goal.at.returns-in-Some-kept c).After-kept in
    let first = (c.link-number.ensures i at_i).number in
    let kept = c.in-Some-kept.ensures c.in-Some.column.now in
    let count = c.at.ensures in
    let is = precedes_kept causality c.args.index.now c.args.self.now are c.args.first c.args.second i j at_i at_j c.in-Some.column.now (counted (goal.at.returns-in-Some-kept c).After-is_counted)
    (not_own c2 i j at_i at_j) in
    (λ less. is.0 (grind (arith, nat_tests, first, kept, count, less)), λ p. (let less = is.1 p in grind (arith, nat_tests, first, kept, count, less)))

pub returns-in-None : goal.returns-in-None
returns-in-None c causality i j are at_i at_j =
    let c2 = (goal.at.returns-in-None c).After-kept in
    let kept = c.in-None.ensures c.in-Some.column.now in
    let is = precedes_kept causality c.args.index.now c.args.self.now are c.args.first c.args.second i j at_i at_j c.in-Some.column.now (counted (goal.at.returns-in-None c).After-is_counted)
    (not_own c2 i j at_i at_j) in
    (λ no. absurd (false≢true no), λ p. absurd (let less = is.1 p in omega (arith, less, kept)))
