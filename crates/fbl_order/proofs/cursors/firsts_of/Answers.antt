use Rattle.fbl_order.proofs.Common.{ℕ, Some, ◌≡◌, ◌<◌, ◌+◌, ◌-◌, ◌∙◌, refl, sym, subst, arith, get_or, length, zero, suc, slice_get_within, length-set, slice_get, slice_get_read}
use Rattle.std.proofs.Common.{replicate}
use Rattle.fbl_order.proofs.Own.{in_front}
use Rattle.fbl_order.proofs.Common.{entry_member}
use Rattle.fbl_order.specs.Cursors.{IsFirstFrom}
use Rattle.fbl_order.proofs.cursors.firsts_of.Goals as goal

pub loop-place-preserved : goal.loop-place-preserved
loop-place-preserved c =
    let place : ℕ = c.loop-place.place - 1 in
    let more : place + 1 ≡ c.loop-place.place = omega arith in
    let within : place < length c.args.entries.now = omega arith in
    let at : slice_get c.args.entries.now place ≡ Some c.index-entries-place.result = slice_get_read _ _ place _ refl within c.index-entries-place.is in
    record {
      firsts =
          in_front entry_member c.args.entries.now c.loop-place.firsts place c.number.result c.index-entries-place.result at (sym c.member.ensures
          ∙ sym c.number.ensures.value)
          (omega (arith, c.loop-place.invariant.room, c.number.ensures.bound))
          (λ q. subst (λ (start : ℕ). IsFirstFrom entry_member c.args.entries.now start q (get_or c.loop-place.firsts q (length c.args.entries.now))) (sym more)
          (c.loop-place.invariant.firsts q));
      room = rw length-set c.loop-place.invariant.room;
    }

pub returns-clause-firsts : goal.returns-clause-firsts
returns-clause-firsts c q = (let none : c.loop-place.place ≡ 0 = omega arith in (rw none at (c.loop-place.invariant.firsts q)))

same : (k q n : ℕ) → get_or (replicate k n) q n ≡ n
same zero q n = refl
same (suc k) zero n = refl
same (suc k) (suc q) n = same k q n

pub loop-place-init : goal.loop-place-init
loop-place-init c =
    let items = c.args.entries.now in
    let n = length items in
    record {
      firsts = λ q. subst (IsFirstFrom entry_member items n q) (sym (same 16 q n))
          (record { later = omega arith; next = (omega arith, λ x at. absurd (omega (arith, slice_get_within items n x at))); skips = refl });
      room = refl;
    }
