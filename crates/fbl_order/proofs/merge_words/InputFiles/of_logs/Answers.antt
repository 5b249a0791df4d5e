use Rattle.std.proofs.Common.{◌∙◌, Some, ap, length, map, rules, sym}
use Rattle.std.proofs.lemmas.List.{take_all}
use Rattle.std.proofs.lemmas.Option.{slice_get-get_or}
use Rattle.fbl_order.proofs.RecordingLaws.{counted_more}
use Rattle.fbl_order.proofs.merge_words.InputFiles.of_logs.Goals as goal

pub loop-log-init : goal.loop-log-init
loop-log-init c = (c.named-files.ensures.names, c.named-files.ensures.none)

pub loop-log-preserved : goal.loop-log-preserved
loop-log-preserved c =
    let counted = c.len.ensures in (
      c.loop-log.invariant.0,
      c.in_ok-push.ensures.items ∙ counted_more (λ log. length log.entries.items) c.args.logs.now c.loop-log.log-index c.log-item.result
          (slice_get-get_or c.args.logs.now c.loop-log.log-index c.log-item.result c.loop-log-test.true ∙ ap Some (sym c.log-item.is)) _ c.len.result c.loop-log.invariant.1 (search (rules, counted)),
    )

pub returns-clause-names : goal.returns-clause-names
returns-clause-names c = c.loop-log.invariant.0

pub returns-clause-lengths : goal.returns-clause-lengths
returns-clause-lengths c = c.loop-log.invariant.1 ∙ ap (map (λ log. length log.entries.items)) (take_all _ _ c.loop-log-test.false)
