use Rattle.fbl_order.specs.declared.files.FilesDiffer.TheVariants.{Memory}
use Rattle.fbl_program.proofs.Common.{◌∙◌, ap, inl, inr, keeps_itself, map}
use Rattle.fbl_program.proofs.Several.{short_of_memory}
use Rattle.fbl_order.specs.declared.recordings.MergeFault.TheVariants.{Files}
use Rattle.fbl_program.proofs.runs.end_merged.Goals as goal

pub returns-in-Err : goal.returns-in-Err
returns-in-Err g c = inr (Files Memory, short_of_memory c.args.recordings.now, (keeps_itself (g.W.Write.contents c.args.writer.now.stream), c.fail.ensures))

pub returns-in-Ok-merge_of : goal.returns-in-Ok-merge_of
returns-in-Ok-merge_of g c =
    inl (
      c.in-Ok-merge_of.merged,
      c.in-Ok-merge_of.ensures.merged,
      c.sources-sources.result,
      record {
        names_are = ap (map (λ name. name.now)) (c.sources-sources.ensures.names ∙ c.in-Ok.ensures.names);
        lengths = c.sources-sources.ensures.lengths ∙ c.in-Ok.ensures.lengths;
        places = c.sources-sources.ensures.places ∙ c.as_slice.ensures.value;
      },
      c.end_run.ensures,
    )

pub returns : goal.returns
returns g c =
    inr (c.in-Err-merge_of.fault, c.in-Err-merge_of.ensures.refused, (keeps_itself (g.W.Write.contents c.args.writer.now.stream), c.refuse_merge.ensures))
