use Rattle.fbl_law.proofs.Common.{AnyState, AnyNote}
use Rattle.fbl_law.proofs.WeightKept.{weighs_the_same}
use Rattle.fbl_law.proofs.step_laws.conserved_law.Goals as goal

-- predicates that hold of all are kept, and hold at first
pub returns : goal.returns
returns g c r sound =
    weighs_the_same g.B.Behaviour.next r AnyState AnyNote g.B.Conserving.mass g.B.Conserving.weight sound
    (λ me from state note member any_state any_note. (tt, λ place default within. tt)) ((λ me member. tt), (λ place default within. tt))
    (g.met.B.Conserving.conserves r.config.members sound.config.members)
