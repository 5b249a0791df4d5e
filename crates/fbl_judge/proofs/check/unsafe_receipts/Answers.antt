use Rattle.fbl_judge.proofs.Common.{arith, ap, at, entry_member, ◌≤◌, ◌<◌, sym, [], ◌∷◌, inl, inr, refl, append-nil, append_assoc, List, Entry, length}
use Rattle.std.proofs.lemmas.List.{drop_all}
use Rattle.fbl_trace.proofs.Gets.{drop_next}
use Rattle.fbl_runs.specs.Clocks.{seen}
use Rattle.fbl_runs.proofs.LeadsLaws.{here_stands}
use Rattle.fbl_judge.proofs.UnsafeLaws.{no_receipt_place, says_safe}
use Rattle.fbl_judge.proofs.Places.{read_at}
use Rattle.fbl_judge.proofs.check.unsafe_receipts.Goals as goal

pub loop-place-preserved : goal.loop-place-preserved
loop-place-preserved c rest says =
    let es = c.args.pasts.now.entries in
    let k = c.loop-place.place in
    let e = c.entry-item.result in
    let within : k < length es = (let l = ap length c.entries-entry-items.ensures.entries in let t = c.loop-place-test.true in omega (arith, l, t)) in
    let here = read_at es c.entries-entry-items.result.now k e c.entries-entry-items.ensures.entries within c.entry-item.is in
    let next = drop_next es k e here in
    let so_far = (rw next at c.loop-place.invariant) in
    let i = at (entry_member e) (seen es k (entry_member e)) in
    let stands = here_stands es k e here in
    elim c.match-receipt.branch [
      | goal.in-Some+in-Some-unsafe_receipt+in_ok-push w ↦
          let said = w.in-Some-unsafe_receipt.ensures i stands in
          rw (w.unsafe_receipts-is, w.in_ok-push.ensures.items, append_assoc) (so_far (w.in-Some-unsafe_receipt.receipt ∷ rest) (inr (i, _, rest, refl, said.0, said.1, says)))
      | goal.in-Some+in_default-unsafe_receipt w ↦ rw w.unsafe_receipts-is (so_far rest (inl (λ j at_j. w.in_default-unsafe_receipt.ensures j at_j.0, says)))
      | goal.in_default w ↦ rw w.unsafe_receipts-is (so_far rest (inl (λ j at_j. absurd (no_receipt_place c.args.pasts.now k e here (sym w.in_default.ensures) j at_j), says)))
    ]

pub returns-clause-said : goal.returns-clause-said
returns-clause-said c =
    let es = c.args.pasts.now.entries in
    let all : length es ≤ c.loop-place.place = (let same = ap (λ (es : List Entry). length es) c.entries-entry-items.ensures.entries in let t = c.loop-place-test.false in omega (arith, same, t)) in
    let none = drop_all c.loop-place.place es all in
    let said = c.loop-place.invariant [] (rw none refl) in
    (rw append-nil at said)

pub returns-clause-safe : goal.returns-clause-safe
returns-clause-safe c = says_safe c.args.pasts.now c.loop-place.unsafe_receipts.items (returns-clause-said c)
