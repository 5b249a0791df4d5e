use Rattle.fbl_threads.proofs.Common.{arith, kept_by_some, kept_if, opens, recorded, refl, some_run}
use Rattle.fbl_threads.proofs.drains.drain_by.Goals as goal

-- nothing is in flight, and nothing was done
pub returns-then-is_quiet : goal.returns-then-is_quiet
returns-then-is_quiet g c =
    let reached = ∣ opens g.B.Behaviour.next c.args.plan.now c.args.keeps refl refl c.of_nothing.ensures.counts c.no_records-records.ensures ∣₁ in
    let run = some_run (recorded c.no_records-records.result) reached in
    let k = kept_by_some g.row.B-State.coded g.row.B-Note.coded run in (
      c.recoverable.ensures.sound,
      record {
        drain = record {
          accepted = c.in_default.ensures;
          reached = run;
          keeps = k;
          started = (omega (arith, c.in_default.ensures.workers_allowed.0, c.of_nothing.ensures.rest.0), omega (arith, c.of_nothing.ensures.rest.0));
          one_receipt_a_turn = omega (arith, k.receipts);
          quiet = cc (c.of_nothing.ensures.rest.1, c.is_quiet.ensures, c.if-is_quiet.true);
        };
        reached = reached;
        kept = kept_if c.args.keeps c.no_records-records.ensures;
      },
    )
