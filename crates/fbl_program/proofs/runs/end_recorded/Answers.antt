use Rattle.fbl_program.proofs.Common.{inl, inr, keeps_itself}
use Rattle.fbl_program.proofs.Several.{one_recording}
use Rattle.fbl_program.proofs.runs.end_recorded.Goals as goal

pub end_merged-requires : goal.end_merged-requires
end_merged-requires g c = one_recording c.args.recorded c.in-Ok.recordings c.in-Ok.ensures

pub returns-in-Ok : goal.returns-in-Ok
returns-in-Ok g c = inl (c.in-Ok.recordings, c.in-Ok.ensures, c.end_merged.ensures)

pub returns-in-Err : goal.returns-in-Err
returns-in-Err g c = inr (keeps_itself (g.W.Write.contents c.args.writer.now.stream), c.fail.ensures)
