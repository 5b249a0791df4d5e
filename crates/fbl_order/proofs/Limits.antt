-- Where there are too many sends and receipts, or restarts, there is no order.
use Rattle.fbl_order.proofs.Common.{ℕ, List, Entry, Some, ◌≡◌, ◌<◌, ◌∙◌, ap, arith, inl, inr, slice_get, take, restarts, restart_in, have_lives, AreFew, RefusesMany, RefusesOrder, IsOneLifeTooMany}
use Rattle.fbl_order.proofs.Fronts.{none-from_many}
use Rattle.fbl_order.proofs.Marks.{is_restart-is, marks-before, restarts-more, weight}
use Rattle.fbl_order.proofs.Common.{true, cond, is_some, ◌+◌}
use Rattle.std.proofs.lemmas.List.Sums.{sum_by-take-le}
use Rattle.fbl_trace.specs.declared.dump.refusal.DumpRefusal.TheVariants.{BadEvent}
use Rattle.fbl_trace.specs.declared.fault.Breach.TheVariants as breach
use Rattle.fbl_runs.specs.Rules.{is_restart}
use Rattle.fbl_runs.specs.declared.entry.Restart as restart
use Rattle.fbl_runs.specs.declared.fault.LifeFault.{LifeFault}
use Rattle.fbl_runs.specs.declared.fault.LogBreach.TheVariants.{Life, Trace}
use Rattle.fbl_order.specs.declared.fault.OrderFault.{OrderFault}
use Rattle.fbl_order.specs.declared.fault.OrderFault.TheVariants.{Refused}

restarts-before : (es : List Entry) (k : ℕ) (e : Entry) (r : restart.Restart) → slice_get es k ≡ Some e → restart_in e ≡ Some r → restarts (take k es) < restarts es
restarts-before es k e r at is =
    let one : weight (is_restart e) ≡ 1 = ap weight (is_restart-is e ∙ ap is_some is) in
    omega (arith, restarts-more es k e at, one, sum_by-take-le (λ x. cond (is_restart x) 1 0) es (k + 1))

too_many : (entries : List Entry) (fault : LifeFault) → have_lives entries ≡ true → IsOneLifeTooMany entries fault → ¬ (AreFew (have_lives entries) entries)
too_many entries fault lived many few = elim many.1 [
  | inl events ↦ (let more = marks-before entries fault.place fault.entry events.0 many.0 events.1 in omega (arith, more, few.0, events.2))
  | inr back ↦ (let more = restarts-before entries fault.place fault.entry back.0 many.0 back.1 in omega (arith, more, few.1 lived, back.2))
]

pub refuses_many : (n : ℕ) (entries : List Entry) (fault : OrderFault) → RefusesMany entries fault → RefusesOrder n entries fault
refuses_many n entries (Refused (BadEvent place) (Trace (breach.Event fault))) many = (
  none-from_many n entries (λ few. (let more = marks-before entries fault.place many.2.0.0 fault.event many.2.0.1 many.2.0.2 in omega (arith, more, few.0, many.2.1))),
  many,
)
refuses_many n entries (Refused (BadEvent place) (Life fault)) many = (none-from_many n entries (too_many entries fault many.1 many.2), many)
refuses_many n entries fault many = absurd many
