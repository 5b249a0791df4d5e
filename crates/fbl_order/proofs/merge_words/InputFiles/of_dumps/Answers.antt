use Rattle.std.proofs.Common.{◌∙◌, Some, ap, length, map, rules, sym}
use Rattle.std.proofs.lemmas.List.{take_all}
use Rattle.std.proofs.lemmas.Option.{slice_get-get_or}
use Rattle.fbl_order.proofs.RecordingLaws.{counted_more}
use Rattle.fbl_order.proofs.merge_words.InputFiles.of_dumps.Goals as goal

pub loop-dump-init : goal.loop-dump-init
loop-dump-init c = (c.named-files.ensures.names, c.named-files.ensures.none)

pub loop-dump-preserved : goal.loop-dump-preserved
loop-dump-preserved c =
    let counted = c.len.ensures in (
      c.loop-dump.invariant.0,
      c.in_ok-push.ensures.items ∙ counted_more (λ dump. length dump.events.items) c.args.dumps.now c.loop-dump.dump-index c.dump-item.result
          (slice_get-get_or c.args.dumps.now c.loop-dump.dump-index c.dump-item.result c.loop-dump-test.true ∙ ap Some (sym c.dump-item.is)) _ c.len.result c.loop-dump.invariant.1 (search (rules, counted)),
    )

pub returns-clause-names : goal.returns-clause-names
returns-clause-names c = c.loop-dump.invariant.0

pub returns-clause-lengths : goal.returns-clause-lengths
returns-clause-lengths c = c.loop-dump.invariant.1 ∙ ap (map (λ dump. length dump.events.items)) (take_all _ _ c.loop-dump-test.false)
