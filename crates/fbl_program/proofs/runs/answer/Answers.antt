use Rattle.fbl_verdicts.specs.Lines.{audit_lines}
use Rattle.fbl_verdicts.specs.Texts.{IsCheckText, IsChecked, says_nothing}
use Rattle.fbl_verdicts.specs.declared.check_text.Checked.{Checked}
use Rattle.fbl_pictures.specs.RunPictures.{IsRunPicture}
use Rattle.std.proofs.Common.{map}
use Rattle.fbl_program.proofs.Common.{◌≡◌, Audit, Check, Draw, IsAnswerTo, IsPlaceMissing, refl, true}
use Rattle.fbl_program.proofs.Arounds.{placed}
use Rattle.fbl_program.proofs.Endings.{cut_answer}
use Rattle.fbl_program.proofs.runs.answer.Goals as goal

pub returns-in_err-write_audit-in-Audit : goal.returns-in_err-write_audit-in-Audit
returns-in_err-write_audit-in-Audit g c =
    let run = c.args.pasts.now in
    let audit = c.in_ok-audit-in-Audit.audit in
    rw c.in-Audit.is (cut_answer (λ _ told. told ≡ audit_lines (map (λ l. l.determinant) audit.lost.items) audit.orphans) (IsAnswerTo Audit run c.args.sources.now) (IsPlaceMissing Audit run c.args.sources.now)
    (λ _. true) (λ _ _ told. (audit, c.in_ok-audit-in-Audit.ensures, told, refl)) _ _ _ _ c.from_residual-in_err-write_audit-in-Audit.ensures.1 c.in_err-write_audit-in-Audit.ensures)

pub returns-in_ok-write_audit-in-Audit : goal.returns-in_ok-write_audit-in-Audit
returns-in_ok-write_audit-in-Audit g c =
    let puts = c.in_ok-write_audit-in-Audit.ensures in
    rw c.in-Audit.is (puts.0, (c.in_ok-audit-in-Audit.audit, c.in_ok-audit-in-Audit.ensures, puts.1, refl), puts.2)

pub returns-in_err-checked-in-Check : goal.returns-in_err-checked-in-Check
returns-in_err-checked-in-Check g c =
    let run = c.args.pasts.now in
    let sources = c.args.sources.now in
    rw c.in-Check.is (cut_answer (λ (said : Checked) told. IsChecked run said × IsCheckText sources said told) (IsAnswerTo Check run sources) (IsPlaceMissing Check run sources) says_nothing
    (λ said _ told. (said, told.0, told.1, refl)) _ _ _ _ c.from_residual-in_err-checked-in-Check.ensures.1 c.in_err-checked-in-Check.ensures)

pub explain_check-requires : goal.explain_check-requires
explain_check-requires g c = c.in_ok-checked-in-Check.ensures.1.0

pub returns-in_ok-checked-in-Check : goal.returns-in_ok-checked-in-Check
returns-in_ok-checked-in-Check g c =
    let puts = c.in_ok-checked-in-Check.ensures in
    rw c.in-Check.is (puts.0, (c.in_ok-checked-in-Check.checked, puts.1.0, puts.1.1, c.is_safe.ensures), puts.2)

pub write_run_picture-requires : goal.write_run_picture-requires
write_run_picture-requires g c = placed _ _ _ _ _ c.column_count.ensures c.in_ok-around-in-Draw.ensures

pub returns-in_err-write_run_picture-in-Draw : goal.returns-in_err-write_run_picture-in-Draw
returns-in_err-write_run_picture-in-Draw g c =
    let run = c.args.pasts.now in
    let sources = c.args.sources.now in
    let words = c.in-Draw.words in
    let around = c.in_ok-around-in-Draw.around in
    let asked = rw c.column_count.ensures at c.in_ok-around-in-Draw.ensures in
    rw c.in-Draw.is (cut_answer (λ _. IsRunPicture run sources around) (IsAnswerTo (Draw words) run sources) (IsPlaceMissing (Draw words) run sources) (λ _. true)
    (λ _ _ told. (around, asked, told, refl)) _ _ _ _
    c.from_residual-in_err-write_run_picture-in-Draw.ensures.1 c.in_err-write_run_picture-in-Draw.ensures)

pub returns-in_ok-write_run_picture-in-Draw : goal.returns-in_ok-write_run_picture-in-Draw
returns-in_ok-write_run_picture-in-Draw g c =
    let puts = c.in_ok-write_run_picture-in-Draw.ensures in
    let asked = rw c.column_count.ensures at c.in_ok-around-in-Draw.ensures in
    rw c.in-Draw.is (puts.0, (c.in_ok-around-in-Draw.around, asked, puts.1, refl), puts.2)
