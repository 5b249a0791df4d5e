use Rattle.fbl_runs.proofs.Common.{◌≡◌, ◌<◌, List, Some, arith, length, log_of, refl, slice_get, slice_get_read, standing, subst, sym}
use Rattle.fbl_runs.specs.declared.lives.StandingEvent.{StandingEvent}
use Rattle.fbl_runs.specs.KnownLives.{AreEvents}
use Rattle.fbl_runs.proofs.life_rules.standing.Goals as goal

pub returns : goal.returns
returns c before has =
    let logs = c.args.lives.now.logs.items in
    let m = c.args.member in
    let below : c.number.result < length logs = (let bound = c.number.ensures.bound in let room = c.args.lives.now.room in omega (arith, bound, room)) in
    let there : slice_get logs c.number.result ≡ Some c.index.result.now = slice_get_read logs (length logs) c.number.result c.index.result.now refl below c.index.ensures in
    let known = has.logs c.args.member c.index.result.now (rw c.number.ensures.value at there) in
    subst (λ (events : List StandingEvent). AreEvents (log_of before m) (standing (log_of before m)) events) (sym c.as_slice.ensures.value) known.standing
