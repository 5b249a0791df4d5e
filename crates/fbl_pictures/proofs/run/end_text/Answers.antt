use Rattle.fbl_pictures.proofs.Common.{ap, inl, inr, not, false≢true, sym, ◌∙◌, IfOk-weaker}
use Rattle.fbl_pictures.proofs.Moments.{orphan_at_end}
use Rattle.fbl_pictures.specs.RunPictures.{HasOrphan}
use Rattle.fbl_pictures.proofs.run.end_text.Goals as goal

pub said_text-requires-clause-said : goal.said_text-requires-clause-said
said_text-requires-clause-said c = c.in-Some.ensures.says

pub returns-then-not-is_empty : goal.returns-then-not-is_empty
returns-then-not-is_empty c =
    let orphan = orphan_at_end c.args.pasts.now c.in_ok-audit.audit c.in_ok-audit.ensures c.requires.judged c.is_empty.result c.is_empty.ensures in
    IfOk-weaker c.audited_text.result _ _ (λ text drawn. inl (inl (orphan.0 (ap not c.if-not-is_empty.true)), drawn)) c.audited_text.ensures

pub returns-in-Some : goal.returns-in-Some
returns-in-Some c =
    let orphan = orphan_at_end c.args.pasts.now c.in_ok-audit.audit c.in_ok-audit.ensures c.requires.judged c.is_empty.result c.is_empty.ensures in
    let none : ¬ (HasOrphan c.args.pasts.now) = λ has. false≢true (ap not (sym c.if-not-is_empty.false) ∙ orphan.1 has) in
    IfOk-weaker c.said_text.result _ _ (λ text drawn. inr (inl (none, (c.in-Some.first, record { first = c.in-Some.ensures; none = inl c.requires.judged }, drawn)))) c.said_text.ensures

pub returns : goal.returns
returns c = IfOk-weaker c.audited_text-in-None.result _ _ (λ text drawn. inl (inr (c.in-None.ensures, inl c.requires.judged), drawn)) c.audited_text-in-None.ensures
