use Rattle.std.proofs.Common.{◌*◌}
use Rattle.fbl_threads.proofs.Common.{arith, kept_by_some, recorded, some_run, still, ℕ, ◌+◌, ◌∙◌, ◌≡◌, ◌≤◌}
use Rattle.fbl_threads.proofs.drains.run.Goals as goal

-- no worker makes no receipt
none_started : (turns : ℕ) {n before started : ℕ} → n ≤ before + started * turns → started ≡ 0 → n ≤ before
none_started turns {n} {before} {started} within none = let at_none : n ≤ before + 0 * turns = rw none at within in omega (arith, at_none)

pub work_on-joined-requires-clause-plan_fits : goal.work_on-joined-requires-clause-plan_fits
work_on-joined-requires-clause-plan_fits g c _ _ = rw (c.requires.origin.1, c.requires.origin.0) c.requires.accepted.plan_fits

-- where no worker was started no receipt was made
pub returns-in-Some : goal.returns-in-Some
returns-in-Some g c =
    let run = some_run (recorded c.close-group.result.2) c.close-group.ensures.reached in
    let k = kept_by_some g.row.B-State.coded g.row.B-Note.coded run in
    let none = none_started g.O.Workers.turns c.close-group.ensures.receipts c.in-Some.ensures.1 in (
      c.close-group.ensures.sound,
      rw c.in-Some.ensures.0 ((c.requires.accepted, c.requires.in_flight), still g.row.B-State.coded g.row.B-Note.coded run (omega (arith, k.receipts, none)) ∙ c.requires.origin.0),
    )

pub returns : goal.returns
returns g c =
    let reached = rw (c.requires.origin.0, c.requires.origin.1, c.requires.origin.2) at c.close-group.ensures.reached in
    let made = rw (c.requires.origin.0, c.requires.origin.3) at c.close-group.ensures.receipts in
    let run = some_run (recorded c.close-group.result.2) reached in
    let k = kept_by_some g.row.B-State.coded g.row.B-Note.coded run in (
      c.close-group.ensures.sound,
      record {
        drain = record {
          accepted = c.requires.accepted;
          reached = run;
          keeps = k;
          started = (c.in_default.ensures, omega (arith, c.close-group.ensures.started.1, c.requires.origin.2));
          one_receipt_a_turn = omega (arith, k.receipts, made);
          quiet = c.close-group.ensures.quiet;
        };
        reached = reached;
        kept = c.close-group.ensures.keeps;
      },
    )
