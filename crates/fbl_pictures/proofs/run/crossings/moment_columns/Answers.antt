use Rattle.fbl_pictures.proofs.Common.{ℕ, ◌==◌, ◌≡◌, ◌∙◌, Option, Some, ap, arith, cases_eq, cases_lt, column_in, cond, inl, inr, length, subst, sym, cut_of, HasPassed, IsCrossing, IsCrossingOf}
use Rattle.fbl_pictures.proofs.Crossing.{put_kept, put_same}
use Rattle.fbl_pictures.proofs.run.crossings.moment_columns.Goals as goal

pub loop-place-init : goal.loop-place-init
loop-place-init c = c.new-pass.ensures c.args.entries.now (cut_of c.args.cut.now)

pub loop-number-preserved : goal.loop-number-preserved
loop-number-preserved c =
    let entries = c.args.entries.now in
    let cut = cut_of c.args.cut.now in
    let end = c.loop-place.pass.end in
    let n = c.loop-number.number in
    let old = c.loop-number.columns in
    let new = c.put.new.self in
    let column = c.crossing-crossing.result in
    let was = c.loop-number.invariant in
    let sets : (q : ℕ) → column_in new q ≡ cond (q == n) (Some column) (column_in old q) = λ q. c.put.ensures q ∙ ap (λ m. cond (q == m) (Some column) (column_in old q)) c.at.ensures in
    record {
      found = λ q below. elim (cases_eq q n) [
        | inl same ↦ (column, put_same old new n (Some column) sets q same, subst (λ (m : ℕ). IsCrossing entries cut end m column) (sym same) c.crossing-crossing.ensures)
        | inr apart ↦ (let before = was.found q (omega (arith, below, apart)) in (before.0, put_kept old new n (Some column) sets q apart ∙ before.1, before.2))
      ];
      others = λ q behind. put_kept old new n (Some column) sets q (λ same. omega (arith, same, behind)) ∙ was.others q (omega (arith, behind));
    }

pub returns : goal.returns
returns c =
    let entries = c.args.entries.now in
    let cut = cut_of c.args.cut.now in
    let pass = c.loop-place.pass in
    let all : c.loop-place.place ≡ length entries = omega arith in
    let passed = subst (λ (p : ℕ). HasPassed entries cut p pass) all c.loop-place.invariant in
    let each = c.loop-number.invariant in (
      pass.end,
      passed.end,
      λ q within. elim (cases_lt q c.args.members) [
        | inl below ↦
            let found = each.found q (omega (arith, below)) in
            subst (λ (o : Option ℕ). IsCrossingOf c.args.members entries cut pass.end q o) (sym found.1) (below, found.2)
        | inr beyond ↦ subst (λ (o : Option ℕ). IsCrossingOf c.args.members entries cut pass.end q o) (sym (each.others q (omega (arith, beyond)))) beyond
      ],
    )
