use Rattle.std.proofs.Common.{◌≡◌, ◌<◌, arith}
use Rattle.fbl_order.proofs.RecordingLaws.{other_version}
use Rattle.std.proofs.Common.{length, rules, vec_len}
use Rattle.std.proofs.lemmas.Bool.Decides.{nat_tests}
use Rattle.fbl_runs.specs.declared.recording.RawRecording.TheVariants as raws
use Rattle.fbl_order.specs.declared.recordings.Recordings.TheVariants.{Dumps, Logs}
use Rattle.fbl_order.proofs.recordings.Recordings.with.Goals as goal

pub returns-then-not-is_empty-clause-refused : goal.returns-then-not-is_empty-clause-refused
returns-then-not-is_empty-clause-refused c =
    let tie : vec_len c.in-Dumps-Log.dumps ≡ length c.in-Dumps-Log.dumps.items = search rules in
    let some : 0 < length c.in-Dumps-Log.dumps.items = grind (arith, nat_tests, tie, c.if-not-is_empty.ensures) in
    rw (c.in-Dumps-Log.is-0, c.in-Dumps-Log.is-1)
    (other_version (Dumps c.in-Dumps-Log.dumps) (raws.Log c.in-Dumps-Log.raw) c.len.result (omega (arith, c.len.ensures, tie), some))

pub returns-clause-refused : goal.returns-clause-refused
returns-clause-refused c =
    let tie : vec_len c.in-Logs-Dump.logs ≡ length c.in-Logs-Dump.logs.items = search rules in
    rw (c.in-Logs-Dump.is-0, c.in-Logs-Dump.is-1)
    (other_version (Logs c.in-Logs-Dump.logs) (raws.Dump c.in-Logs-Dump.field-0-1) c.len-in-Logs-Dump.result (omega (arith, c.len-in-Logs-Dump.ensures, tie)))
