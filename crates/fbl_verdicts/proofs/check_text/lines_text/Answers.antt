use Rattle.std.proofs.lemmas.List.Folds.{concat-append}
use Rattle.fbl_verdicts.proofs.Common.{◌++◌, ◌∷◌, [], ◌∙◌, ap, append-nil, sym, take_all}
use Rattle.std.specs.List.{concat}
use Rattle.fbl_verdicts.specs.Texts.{IsLineOf}
use Rattle.fbl_verdicts.proofs.Zips.{zip_more}
use Rattle.fbl_verdicts.proofs.check_text.lines_text.Goals as goal

pub loop-one-preserved : goal.loop-one-preserved
loop-one-preserved c =
    let before = c.loop-one.invariant in
    let pushed = c.in_ok-push_said.ensures in
    let line = pushed.0 in (
      before.0 ++ line ∷ [],
      zip_more (IsLineOf c.args.sources.now) c.args.said.now _ c.one-item.result before.0 line c.loop-one-test.true
          c.one-item.is before.1 pushed.1,
      pushed.2 ∙ ap (λ front. front ++ line) before.2 ∙ ap (λ end. concat before.0 ++ end) (sym (append-nil line)) ∙ sym (concat-append before.0 (line ∷ [])),
    )

pub returns : goal.returns
returns c = rw (take_all _ _ c.loop-one-test.false) at c.loop-one.invariant
