use Rattle.fbl_program.proofs.Common.{IfSome_then, inl, inr, keeps_itself}
use Rattle.fbl_program.proofs.jobs.end_input.Goals as goal

pub returns-in-Ok : goal.returns-in-Ok
returns-in-Ok g c =
    let known = g.R.Read.remaining c.args.reader.now.stream in
    let ends = rw c.in-Judge.is at c.end_run.ensures in
    rw c.in-Judge.is (IfSome_then known c.in-Ok.ensures.checked (λ input is. inl (c.in-Ok.found, is, (c.one_file.result, c.one_file.ensures, ends))))

pub returns-in-Err : goal.returns-in-Err
returns-in-Err g c =
    let had = g.W.Write.contents c.args.writer.now.stream in
    let known = g.R.Read.remaining c.args.reader.now.stream in
    rw c.in-Judge.is (IfSome_then known c.in-Err.ensures.fault (λ input no. inr (c.in-Err.fault, no, (keeps_itself had, c.refuse_input.ensures))))

pub returns-in-Ok-read_recorded : goal.returns-in-Ok-read_recorded
returns-in-Ok-read_recorded g c =
    let known = g.R.Read.remaining c.args.reader.now.stream in
    let ends = rw c.in-Merge.is at c.end_recorded.ensures in
    rw c.in-Merge.is (IfSome_then known c.in-Ok-read_recorded.ensures.parts (λ input is. inl (c.in-Ok-read_recorded.found.recorded, is.0, ends)))

pub returns-in-Err-read_recorded : goal.returns-in-Err-read_recorded
returns-in-Err-read_recorded g c =
    let had = g.W.Write.contents c.args.writer.now.stream in
    let known = g.R.Read.remaining c.args.reader.now.stream in
    rw c.in-Merge.is (IfSome_then known c.in-Err-read_recorded.ensures.fault
    (λ input no. inr (c.in-Err-read_recorded.fault, no, (keeps_itself had, c.refuse_input-in-Err-read_recorded.ensures))))
