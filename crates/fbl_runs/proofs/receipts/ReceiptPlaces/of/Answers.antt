use Rattle.fbl_runs.proofs.Common.{ℕ, Option, ◌≡◌, ◌+◌, arith, ap, length, receipt_in, subst, sym}
use Rattle.std.specs.Prelude.{◌-◌}
use Rattle.std.specs.HashMap as hash_map
use Rattle.std.specs.Map.{lookup}
use Rattle.fbl_trace.specs.Events.{same_determinant}
use Rattle.fbl_runs.specs.Receipts.{IsReceiptPlace}
use Rattle.fbl_runs.specs.Records.{IsFirstFrom}
use Rattle.fbl_runs.proofs.RecordLaws.{none_past}
use Rattle.fbl_runs.proofs.receipts.ReceiptPlaces.of.Goals as goal

pub loop-place-init : goal.loop-place-init
loop-place-init c = record {
  within = omega arith;
  receipts = λ d. subst (λ (o : Option ℕ). IsFirstFrom (IsReceiptPlace c.args.entries.now d) (length c.args.entries.now) o) (sym (ap (lookup (same_determinant d)) c.new.ensures.empty))
      (none_past receipt_in c.args.entries.now d);
}

pub add-requires-clause-receipts : goal.add-requires-clause-receipts
add-requires-clause-receipts c d =
    let here = c.loop-place.place in
    let same : here ≡ here - 1 + 1 = (let some = c.loop-place-test.true in omega (arith, some)) in
    subst (λ (p : ℕ). IsFirstFrom (IsReceiptPlace c.args.entries.now d) p (hash_map.get same_determinant c.loop-place.receipts.firsts d)) same (c.loop-place.invariant.receipts d)

pub returns : goal.returns
returns c d =
    let first : c.loop-place.place ≡ 0 = (let none = c.loop-place-test.false in omega (arith, none)) in
    subst (λ (p : ℕ). IsFirstFrom (IsReceiptPlace c.args.entries.now d) p (hash_map.get same_determinant c.loop-place.receipts.firsts d)) first (c.loop-place.invariant.receipts d)
