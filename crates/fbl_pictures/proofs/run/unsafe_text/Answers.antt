use Rattle.fbl_pictures.proofs.Common.{ℕ, List, ◌∙◌, IfOk-weaker, refl, subst, sym}
use Rattle.std.specs.Prelude.{string_bytes}
use Rattle.fbl_judge.proofs.Audits.{named_one}
use Rattle.fbl_judge.proofs.ReasonLaws.{said_within}
use Rattle.fbl_pictures.proofs.Findings.{unsafe}
use Rattle.fbl_pictures.specs.RunPictures.{IsPlaceText}
use Rattle.fbl_pictures.proofs.run.unsafe_text.Goals as goal

pub finding_text-requires-clause-named : goal.finding_text-requires-clause-named
finding_text-requires-clause-named c =
    let said = c.args.said.now in
    let is = c.requires.said.1 in
    named_one c.args.pasts.now c.requires.said.0 (record { place = said.place; determinant = said.determinant }) (record { place = is.place; determinant = is.receipt })

pub finding_text-requires-clause-within : goal.finding_text-requires-clause-within
finding_text-requires-clause-within c = said_within c.args.pasts.now c.requires.said.0 c.args.said.now c.requires.said.1

pub returns : goal.returns
returns c =
    let said = c.args.said.now in
    let place = subst (λ (w : List ℕ). IsPlaceText c.args.sources.now said.at w) (sym c.as_str.ensures.value) c.in_ok-place.ensures in
    let words = c.as_str-2.ensures.value ∙ c.in_ok-words.ensures in
    IfOk-weaker c.finding_text.result _ _ (λ text drawn. unsafe c.args.pasts.now c.args.sources.now c.args.around said _ _ _ (string_bytes text) drawn words place
    (record { strike = refl; orphans = refl; receipts = refl; at = refl; moment = refl })) c.finding_text.ensures
