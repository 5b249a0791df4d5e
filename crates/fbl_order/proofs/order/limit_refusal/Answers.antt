use Rattle.fbl_order.proofs.Common.{Entry, Some, ◌≡◌, ◌∙◌, ap, inl, mark_in, refl, slice_get, slice_get_read, slice_get_within, sym}
use Rattle.fbl_order.proofs.order.limit_refusal.Goals.{then-lived, else-lived}
use Rattle.fbl_order.proofs.order.limit_refusal.Goals as goal

pub returns-in-Some : goal.returns-in-Some
returns-in-Some c =
    let many = c.in-Some.ensures in
    let entries = c.args.entries.now in
    let place = c.in-Some.fault.place in
    elim c.if-lived.branch [
      | then-lived w ↦
          let e : Entry = w.index-entries-place.result in
          let at : slice_get entries place ≡ Some e = slice_get_read entries _ place e refl (slice_get_within entries place many.0.0 many.0.1) w.index-entries-place.is in
          let same : many.0.0 ≡ e = (let some : Some many.0.0 ≡ Some e = sym many.0.1 ∙ at in cc) in
          rw w.breach-is (refl, sym c.have_lives-lived.ensures ∙ w.if-lived.true, (at, inl (c.in-Some.fault.event, sym (ap mark_in same) ∙ many.0.2, many.1, refl)))
      | else-lived w ↦ rw w.breach-is (refl, sym c.have_lives-lived.ensures ∙ w.if-lived.false, many)
    ]
