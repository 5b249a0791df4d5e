use Rattle.fbl_threads.proofs.Common.{listed}
use Rattle.fbl_threads.proofs.Telling.{tells_some}
use Rattle.fbl_threads.proofs.drains.drain_recorded.Goals as goal

pub returns-in-Some : goal.returns-in-Some
returns-in-Some g c =
    let answer = rw c.in-Ok.is at c.drain_by-group.ensures in
    let reached = listed (rw c.in-Some.is at answer.1.reached) in
    (answer.0, record { drain = answer.1.drain; reached = reached; tells = tells_some _ _ _ _ _ _ _ reached })
