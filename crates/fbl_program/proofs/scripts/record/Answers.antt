use Rattle.fbl_input.specs.declared.output.OutputFault.TheVariants.{Memory}
use Rattle.fbl_program.specs.Outcomes.{IsRecorded}
use Rattle.fbl_program.proofs.Common.{◌≡◌, ◌∙◌, true, refl, Err, Record, keeps_itself, outline}
use Rattle.fbl_program.proofs.Endings.{cut, recorded, tries_err}
use Rattle.fbl_program.proofs.scripts.record.Goals as goal

pub returns-in_err-line-in-Ok : goal.returns-in_err-line-in-Ok
returns-in_err-line-in-Ok g c =
    let had = g.W.Write.contents c.args.writer.now in
    tries_err (Record c.args.workers) (outline c.args.script) had had Memory _ c.from_residual.ensures.1 (keeps_itself had)

pub returns-in_err-write_line-in-Ok : goal.returns-in_err-write_line-in-Ok
returns-in_err-write_line-in-Ok g c =
    let s = outline c.args.script in
    let workers = c.args.workers in
    let fault = c.in_err-write_line-in-Ok.field-0.0 in
    tries_err (Record workers) s _ _ fault _ c.from_residual-in_err-write_line-in-Ok.ensures.1
    (cut (λ _ told. told ≡ c.as_str.result.now) (λ is_well told. IsRecorded workers s told × (is_well ≡ true)) (λ _. true)
    (λ _ told is. (recorded _ _ workers s _ _ c.in-Ok.run' told c.in-Ok.ensures (is ∙ c.as_str.ensures.value ∙ c.in_ok-line-in-Ok.ensures.line), refl)) _ _ fault (Err fault)
    refl c.in_err-write_line-in-Ok.ensures)

pub returns-in_ok-write_line-in-Ok : goal.returns-in_ok-write_line-in-Ok
returns-in_ok-write_line-in-Ok g c =
    let s = outline c.args.script in
    let puts = c.in_ok-write_line-in-Ok.ensures in
    (puts.0, (recorded _ _ c.args.workers s _ _ c.in-Ok.run' puts.0 c.in-Ok.ensures (puts.1 ∙ c.as_str.ensures.value ∙ c.in_ok-line-in-Ok.ensures.line), refl), puts.2)
