use Rattle.fbl_judge.proofs.Common.{subst, StandsAt, List, Entry, at}
use Rattle.fbl_judge.proofs.named.is_dependent.Goals as goal

pub returns-then-precedes : goal.returns-then-precedes
returns-then-precedes c i stands =
    let own : StandsAt c.args.pasts.now.entries c.place-place.result (at c.args.member c.args.number) = subst (λ (es : List Entry). StandsAt es c.place-place.result (at c.args.member c.args.number)) c.index.ensures c.place-place.ensures in
    let path = c.precedes.ensures i (at c.args.member c.args.number) stands own in
    let standing = c.stands.ensures (at c.args.member c.args.number) own in (
      λ h. (path.0 c.if-precedes.true, standing.0 h),
      λ is. standing.1 is.1,
    )
