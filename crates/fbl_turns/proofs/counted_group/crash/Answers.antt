use Rattle.fbl_turns.proofs.Common.{arith, ap, sym, ◌∙◌, counts_of, Recovered}
use Rattle.fbl_turns.proofs.Keeping.{at-within}
use Rattle.fbl_turns.proofs.Leading.{as_recorded}
use Rattle.fbl_turns.proofs.Recording.{undone_more}
use Rattle.fbl_turns.proofs.counted_group.crash.Goals as goal

pub add-requires-clause-fits : goal.add-requires-clause-fits
add-requires-clause-fits g c =
    let crash = c.in-Ok.ensures.crashed.1 in
    let at = at-within c.args.counted.now.undone_by_worker.items c.args.worker c.requires.place in
    omega (arith, at, c.requires.counted, crash.1.0.undone_ever, crash.2.recovery.rest.undone_ever, crash.2.undone, c.from-undone.ensures, c.undone_ever-ever.ensures, c.undone_ever-ever.type_inv)

pub returns-in-Ok : goal.returns-in-Ok
returns-in-Ok g c =
    let t = c.recovery_record.ensures in
    let told = as_recorded _ _ _ _ _ (c.in-Ok.ensures.crashed.0, (c.in-Ok.struck, c.in-Ok.ensures.crashed.1), c.in-Ok.ensures.holders) (record { struck = t.0; recovered = t.1; received = t.2; sent = t.3 }) in
    (told.0, told.1, undone_more (counts_of c.args.counted.now) c.args.worker c.add.ensures (c.from-undone.ensures ∙ ap (λ (r : Recovered). r.undone) (sym t.1)))
