-- none of these restarts is the member's
use Rattle.fbl_judge.proofs.Common.{◌≡◌, Position}
use Rattle.fbl_judge.proofs.Restarts.{NoneIn}
use Rattle.fbl_judge.proofs.named.has_restarted.Given as goal

abbrev pub invariant-loop-place : goal.invariant-loop-place
invariant-loop-place l = NoneIn l.pasts.entries l.restarts l.place-index (λ (r : Position). r.member ≡ l.member)
