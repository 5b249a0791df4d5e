use Rattle.std.proofs.lemmas.List.{take_all}
use Rattle.std.proofs.lemmas.Option.{slice_get-get_or}
use Rattle.fbl_program.proofs.Common.{◌∙◌, inl, inr, sym}
use Rattle.fbl_order.proofs.RecordingLaws.{same_fault}
use Rattle.fbl_program.proofs.Several.{item_at, pushed, read_more, read_none}
use Rattle.fbl_program.proofs.jobs.files_at.Goals as goal

pub loop-name-init : goal.loop-name-init
loop-name-init g c = rw c.new-files.ensures.items tt

pub returns-in_err-recorded-clause-refused : goal.returns-in_err-recorded-clause-refused
returns-in_err-recorded-clause-refused g c =
    same_fault _ c.in_err-recorded.field-0.0 c.from_residual.result c.from_residual.ensures.1
    (read_none (g.S.Streams.input c.args.streams.now) c.args.names.now c.loop-name.name-index _ (slice_get-get_or c.args.names.now c.loop-name.name-index _ c.loop-name-test.true)
    c.loop-name.files.items c.loop-name.invariant _ c.in_err-recorded.ensures.refused)

pub returns-then-is_err-clause-refused : goal.returns-then-is_err-clause-refused
returns-then-is_err-clause-refused g c =
    let name = item_at c.args.names.now c.loop-name.name-index c.loop-name-test.true in
    read_none (g.S.Streams.input c.args.streams.now) c.args.names.now c.loop-name.name-index name.0 name.1 c.loop-name.files.items c.loop-name.invariant _ (inl (inr c.fail.ensures))

pub loop-name-preserved : goal.loop-name-preserved
loop-name-preserved g c =
    rw (pushed c.push.result c.push.new.self.items _ _ (sym c.is_err.ensures.value ∙ c.if-is_err.false) c.push.ensures.items)
    (read_more (g.S.Streams.input c.args.streams.now) c.args.names.now c.loop-name.name-index _
    (slice_get-get_or c.args.names.now c.loop-name.name-index _ c.loop-name-test.true) c.loop-name.files.items c.loop-name.invariant
    c.in_ok-recorded.recorded c.in_ok-recorded.ensures.recorded)

pub returns-in-Ok-clause-recordings : goal.returns-in-Ok-clause-recordings
returns-in-Ok-clause-recordings g c =
    let all = take_all c.loop-name.name-index c.args.names.now c.loop-name-test.false in
    (c.loop-name.files.items, rw all at c.loop-name.invariant, c.in-Ok.ensures.recordings)

pub returns-in-Err-clause-refused : goal.returns-in-Err-clause-refused
returns-in-Err-clause-refused g c =
    let all = take_all c.loop-name.name-index c.args.names.now c.loop-name-test.false in
    inr (c.loop-name.files.items, c.in-Err.fault, rw all at c.loop-name.invariant, c.in-Err.ensures.refused, c.refuse_merge.ensures)
