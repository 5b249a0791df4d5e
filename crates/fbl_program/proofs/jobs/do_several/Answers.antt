use Rattle.fbl_program.proofs.Common.{inl, inr, sym, ◌∙◌}
use Rattle.fbl_program.proofs.Several.{some_recordings}
use Rattle.fbl_program.proofs.jobs.do_several.Goals as goal

pub returns-in-Err-writer : goal.returns-in-Err-writer
returns-in-Err-writer g c =
    rw (sym c.names_input_again.ensures ∙ c.if-names_input_again.false) (inl (c.in-Ok.files, c.in-Ok.ensures.recordings, inl c.in-Err-writer.ensures.refused))

pub end_merged-status-requires : goal.end_merged-status-requires
end_merged-status-requires g c = some_recordings _ c.args.names.now _ c.requires c.in-Ok.ensures.recordings

pub returns : goal.returns
returns g c =
    rw (sym c.names_input_again.ensures ∙ c.if-names_input_again.false)
    (inl (
      c.in-Ok.files,
      c.in-Ok.ensures.recordings,
      inr (
        _,
        c.end_merged-status.result,
        rw c.in-Ok-writer.ensures.opened at c.end_merged-status.ensures,
        c.settle.ensures.left,
        c.settle.ensures.status,
      ),
    ))
