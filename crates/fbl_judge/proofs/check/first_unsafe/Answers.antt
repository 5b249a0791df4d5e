use Rattle.fbl_judge.proofs.Common.{arith, ap, at, cases_eq, entry_member, inl, inr, length, subst, sym, ℕ, ◌<◌}
use Rattle.fbl_runs.specs.Clocks.{seen}
use Rattle.fbl_runs.proofs.LeadsLaws.{here_stands}
use Rattle.fbl_judge.specs.Unsafe.{IsReceiptPlace}
use Rattle.fbl_judge.proofs.UnsafeLaws.{no_receipt_place, none_unsafe}
use Rattle.fbl_judge.proofs.Places.{read_at}
use Rattle.fbl_judge.proofs.check.first_unsafe.Goals as goal

pub returns-in-Some-unsafe_receipt : goal.returns-in-Some-unsafe_receipt
returns-in-Some-unsafe_receipt c =
    let es = c.args.pasts.now.entries in
    let k = c.loop-place.place in
    let e = c.entry-item.result in
    let within : k < length es = (let l = ap length c.entries-entry-items.ensures.entries in let t = c.loop-place-test.true in omega (arith, l, t)) in
    let here = read_at es c.entries-entry-items.result.now k e c.entries-entry-items.ensures.entries within c.entry-item.is in
    let i = at (entry_member e) (seen es k (entry_member e)) in
    let said = c.in-Some-unsafe_receipt.ensures i (here_stands es k e here) in
    record {
      says = (i, said.1);
      safe = λ p j before at_j. c.loop-place.invariant p j (let same = said.0 in omega (arith, before, same)) at_j;
    }

pub loop-place-preserved : goal.loop-place-preserved
loop-place-preserved c p j before at_j =
    let es = c.args.pasts.now.entries in
    let k = c.loop-place.place in
    let e = c.entry-item.result in
    let within : k < length es = (let l = ap length c.entries-entry-items.ensures.entries in let t = c.loop-place-test.true in omega (arith, l, t)) in
    let here = read_at es c.entries-entry-items.result.now k e c.entries-entry-items.ensures.entries within c.entry-item.is in
    elim (cases_eq p k) [
      | inr ne ↦ c.loop-place.invariant p j (omega (arith, before, ne)) at_j
      | inl same ↦
          let at_k = subst (λ (p : ℕ). IsReceiptPlace c.args.pasts.now p j) same at_j in
          elim c.match-receipt.branch [
            | goal.in-Some+in_default-unsafe_receipt w ↦ w.in_default-unsafe_receipt.ensures j at_k.0
            | goal.in_default w ↦ absurd (no_receipt_place c.args.pasts.now k e here (sym w.in_default.ensures) j at_k)
          ]
    ]

pub returns : goal.returns
returns c = none_unsafe c.args.pasts.now (λ p i below at_i. c.loop-place.invariant p i
    (let l = ap length c.entries-entry-items.ensures.entries in let t = c.loop-place-test.false in omega (arith, l, t, below)) at_i)
