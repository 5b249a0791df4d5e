use Rattle.fbl_pictures.proofs.Common.{List, ◌≡◌, ◌∙◌, IfOk-weaker, ap, arith, length, refl, rules, subst, sym, vec_len}
use Rattle.std.specs.Prelude.{string_bytes}
use Rattle.fbl_runs.specs.Logs.{RunParts}
use Rattle.fbl_judge.specs.Audits.{AreNamed}
use Rattle.fbl_judge.specs.declared.audit.LostReceipt.{LostReceipt}
use Rattle.fbl_pictures.proofs.Findings.{audited}
use Rattle.fbl_pictures.specs.Headings.{audit_words}
use Rattle.fbl_pictures.proofs.run.audited_text.Goals as goal

pub finding_text-requires-clause-named : goal.finding_text-requires-clause-named
finding_text-requires-clause-named c = subst (λ (receipts : List LostReceipt). AreNamed c.args.pasts.now receipts) (sym c.as_slice.ensures.value) c.requires.audit.named

pub finding_text-requires-clause-within : goal.finding_text-requires-clause-within
finding_text-requires-clause-within c q = (let is = c.last.ensures q in omega (arith, is))

pub returns : goal.returns
returns c =
    let run = c.args.pasts.now in
    let audit = c.args.audit.now in
    let tie : vec_len audit.lost ≡ length audit.lost.items = search rules in
    let lost : c.len.result ≡ length audit.lost.items = c.len.ensures ∙ tie in
    let struck : c.strike.result ≡ run.strike = c.strike.ensures ∙ ap (λ (r : RunParts). r.strike) c.run.ensures.run in
    let struck_too = c.strike-2.ensures ∙ ap (λ (r : RunParts). r.strike) c.run-2.ensures.run in
    let words = c.as_str.ensures.value ∙ c.in_ok-words.ensures ∙ (λ i. audit_words (struck i) (lost i) audit.orphans) in
    IfOk-weaker c.finding_text.result _ _ (λ text drawn. audited run c.args.around audit _ _ (string_bytes text) drawn words c.requires.audit
    (record { strike = struck_too; orphans = refl; receipts = c.as_slice.ensures.value; at = refl; moment = c.last.ensures })) c.finding_text.ensures
