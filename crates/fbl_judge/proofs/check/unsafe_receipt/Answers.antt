use Rattle.fbl_judge.proofs.Common.{◌≡◌, ◌∙◌, ap, sym}
use Rattle.fbl_runs.specs.Logs.{RunParts}
use Rattle.fbl_runs.specs.declared.judged.Judged.TheVariants.{AtEachMoment, AtItsEnd}
use Rattle.fbl_judge.proofs.DependLaws.{receipt_at}
use Rattle.fbl_judge.proofs.UnsafeLaws.{said_at_end, said_at_moment}
use Rattle.fbl_judge.proofs.check.unsafe_receipt.Goals as goal

pub returns-in-AtItsEnd : goal.returns-in-AtItsEnd
returns-in-AtItsEnd c i stands =
    let run = c.args.pasts.now in
    let d = c.args.determinant.now in
    let judged : run.judged ≡ AtItsEnd = ap (λ (run : RunParts). run.judged) (sym c.run.ensures.run) ∙ sym c.judged.ensures ∙ c.in-AtItsEnd.is in
    said_at_end run c.requires.run.lawful c.requires.run.strike i d (receipt_at run.entries c.args.place d i c.requires.receipt stands) c.unsafe_at_end.result c.args.place stands judged (c.unsafe_at_end.ensures i stands)

pub returns-in-AtEachMoment : goal.returns-in-AtEachMoment
returns-in-AtEachMoment c i stands =
    let run = c.args.pasts.now in
    let d = c.args.determinant.now in
    let judged : run.judged ≡ AtEachMoment = ap (λ (run : RunParts). run.judged) (sym c.run.ensures.run) ∙ sym c.judged.ensures ∙ c.in-AtEachMoment.is in
    said_at_moment run c.requires.run.lawful c.requires.run.strike i d (receipt_at run.entries c.args.place d i c.requires.receipt stands) c.unsafe_at_moment.result c.args.place stands judged (c.unsafe_at_moment.ensures i stands)
