use Rattle.fbl_runs.proofs.Common.{arith, ◌≡◌, ◌∙◌, sym, refl, subst, List, Entry, HappenedBefore, Some, length, slice_get, slice_get_read, take}
use Rattle.std.proofs.Common.{below_more}
use Rattle.fbl_runs.specs.Lawful.{BreaksAt, ObeysAt, records}
use Rattle.fbl_runs.specs.Precedence.{AreClocks}
use Rattle.fbl_runs.specs.Receipts.{AreReceiptPlaces}
use Rattle.fbl_runs.proofs.RunLaws.{good_all, records-is_none, records-is_some, records-le}
use Rattle.fbl_runs.proofs.lawful.first_bad.Goals as goal
use Rattle.fbl_runs.proofs.lawful.first_bad.Goals.{After-broken_rule, then-is_some, else-is_some}

pub loop-place-init : goal.loop-place-init
loop-place-init c = record { good = λ i below. absurd (omega (arith, below)); count = refl }

here : (c : After-broken_rule) → slice_get c.args.entries.now c.loop-place.place ≡ Some c.index-entries-place.result
here c = slice_get_read c.args.entries.now (length c.args.entries.now) c.loop-place.place c.index-entries-place.result refl c.loop-place-test.true c.index-entries-place.is

clocks : (c : After-broken_rule) → AreClocks HappenedBefore c.args.entries.now c.in_ok-clocks.clocks
clocks c = subst (λ (es : List Entry). AreClocks HappenedBefore es c.in_ok-clocks.clocks) c.in_ok-index.ensures c.in_ok-clocks.ensures

pub returns-in-Some : goal.returns-in-Some
returns-in-Some c =
    let after = (goal.at.returns-in-Some c).After-broken_rule in
    let p = c.loop-place.place in
    let P : List Entry → Type 0 = λ es. AreClocks HappenedBefore es c.in_ok-clocks.clocks → c.loop-place.count ≡ length (records (take p es)) → BreaksAt c.args.members es p c.in-Some.rule in
    (c.loop-place.invariant.good, here after, subst P c.in_ok-index.ensures c.in-Some.ensures (clocks after) c.loop-place.invariant.count)

pub overflow_add-count : goal.overflow_add-count
overflow_add-count c = (let few = records-le c.args.entries.now c.loop-place.place in let n = c.loop-place.invariant.count in let t = c.loop-place-test.true in omega (arith, few, n, t))

pub loop-place-preserved : goal.loop-place-preserved
loop-place-preserved c =
    let after = (goal.at.loop-place-preserved c).After-broken_rule in
    let es = c.args.entries.now in
    let p = c.loop-place.place in
    let P : List Entry → Type 0 = λ es. AreClocks HappenedBefore es c.in_ok-clocks.clocks → c.loop-place.count ≡ length (records (take p es)) → ObeysAt c.args.members es p in
    record {
      good = below_more (ObeysAt c.args.members es) p c.loop-place.invariant.good (subst P c.in_ok-index.ensures c.in_default.ensures (clocks after) c.loop-place.invariant.count);
      count = elim c.if-is_some.branch [
        | then-is_some w ↦
            let more = records-is_some es p c.index-entries-place.result c.recorded.result (here after) c.recorded.ensures (sym c.is_some.ensures ∙ w.if-is_some.true) in
            (let n = c.loop-place.invariant.count in let is = w.count-is in omega (arith, n, is, more))
        | else-is_some w ↦
            let same = records-is_none es p c.index-entries-place.result c.recorded.result (here after) c.recorded.ensures (sym c.is_some.ensures ∙ w.if-is_some.false) in
            (let n = c.loop-place.invariant.count in let is = w.count-is in omega (arith, n, is, same))
      ];
    }

pub returns : goal.returns
returns c = good_all c.args.members c.args.entries.now c.loop-place.place c.loop-place-test.false c.loop-place.invariant.good

pub broken_rule-requires-clause-receipts : goal.broken_rule-requires-clause-receipts
broken_rule-requires-clause-receipts c = subst (λ (es : List Entry). AreReceiptPlaces es 0 c.in_ok-receipts.receipts) (sym c.in_ok-index.ensures) c.in_ok-receipts.ensures
