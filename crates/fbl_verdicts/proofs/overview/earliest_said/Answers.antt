use Rattle.fbl_verdicts.proofs.Common.{sym, subst}
use Rattle.std.specs.List.{All}
use Rattle.fbl_runs.specs.HappenedBefore.{Position}
use Rattle.fbl_judge.proofs.Places.{place_within}
use Rattle.fbl_judge.specs.declared.check.UnsafeReceipt.{UnsafeReceipt}
use Rattle.fbl_judge.specs.declared.undone.UndoneReceipt.{UndoneReceipt}
use Rattle.fbl_judge.specs.Undone.{IsSaidUndone}
use Rattle.fbl_judge.specs.Unsafe.{IsSaidOf}
use Rattle.fbl_verdicts.proofs.Sayings.{all_said}
use Rattle.fbl_verdicts.proofs.UndoneLaws.{each_said}
use Rattle.fbl_verdicts.proofs.overview.earliest_said.Goals as goal

pub keep_earliest-requires : goal.keep_earliest-requires
keep_earliest-requires c =
    let run = c.args.pasts.now in
    let all : All (λ u. (i : Position) × IsSaidOf run i u) c.as_slice-receipt-items.result.now =
    rw c.as_slice-receipt-items.ensures.value (all_said run 0 run.entries c.args.checked.now.unsafe_receipts.items c.requires.says) in
    let one = all c.loop-receipt.receipt-index c.receipt-item.result c.loop-receipt-test.true in
    let said = subst (λ (u : UnsafeReceipt). (i : Position) × IsSaidOf run i u) (sym c.receipt-item.is) one in
    rw c.entries-entries.ensures.entries (place_within run.entries c.receipt-item.result.place said.0 said.1.place)

pub keep_earliest-requires-in-loop-undone : goal.keep_earliest-requires-in-loop-undone
keep_earliest-requires-in-loop-undone c =
    let run = c.args.pasts.now in
    let all : All (λ u. (i : Position) × IsSaidUndone run i u) c.as_slice-undone-items.result.now =
    rw c.as_slice-undone-items.ensures.value (each_said run 0 run.entries c.args.checked.now.undone_receipts.items c.requires.undone) in
    let one = all c.loop-undone.undone-index c.undone-item.result c.loop-undone-test.true in
    let said = subst (λ (u : UndoneReceipt). (i : Position) × IsSaidUndone run i u) (sym c.undone-item.is) one in
    rw c.entries-entries.ensures.entries (place_within run.entries c.undone-item.result.place said.0 said.1.place)
