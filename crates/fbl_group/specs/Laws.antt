-- The laws of strikes and deliveries in the words of their calls.
use Rattle.std.specs.Prelude.{◌≡◌, ◌⊎◌, ℕ, ◌<◌, None}
use Rattle.std.specs.FinSet as set
use Rattle.fbl_trace.specs.Fold.{Next}
use Rattle.fbl_trace.specs.MemberSets.{Members}
use Rattle.fbl_law.specs.Groups.{GroupRecord, messages_in_flight}
use Rattle.fbl_group.specs.declared.answers.Struck.{Struck}
use Rattle.fbl_group.specs.declared.refusals.DeliverRefusal.{DeliverRefusal}
use Rattle.fbl_group.specs.declared.refusals.DeliverRefusal.TheVariants.{Full, Memory}
use Rattle.fbl_group.specs.Deliveries.{IsDeliverRefusal, deliver_refusal}
use Rattle.fbl_group.specs.Strikes.{Strikes, strike_refusal}
use Rattle.fbl_group.specs.Theorem.{AreStruck}

-- strikes that are allowed one after the other are one strike, of all their members, which is allowed too
abbrev pub StrikesAreOne : Type 0 → Type 0 → Type 0
StrikesAreOne S N =
    (next : Next S N) (first last : GroupRecord S N) → AreStruck next first last
    → (last ≡ first) ⊎ ((struck : Members) × (answer : Struck) × (strike_refusal first struck ≡ None) × Strikes next first last struck answer)

-- while nobody is down and a message is in flight, some delivery is refused only where room or memory is wanting
abbrev pub SomeDeliveryIsOpen : Type 0 → Type 0 → Type 0
SomeDeliveryIsOpen S N =
    (next : Next S N) (r : GroupRecord S N) → r.down ≡ set.empty → 0 < messages_in_flight r
    → (to : ℕ) × (from : ℕ) × ((refusal : DeliverRefusal) → IsDeliverRefusal (deliver_refusal next r to from) refusal → (refusal ≡ Full) ⊎ (refusal ≡ Memory))
