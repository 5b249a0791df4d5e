use Rattle.fbl_pictures.proofs.Common.{ℕ, List, Option, Some, ◌<◌, ◌∙◌, IfOk-weaker, ap, arith, length, refl, subst, sym}
use Rattle.std.specs.Prelude.{IfSome, string_bytes}
use Rattle.fbl_runs.specs.Logs.{RunParts}
use Rattle.fbl_judge.proofs.Audits.{named_one}
use Rattle.fbl_pictures.proofs.Findings.{undone}
use Rattle.fbl_pictures.proofs.Undones.{restart_drawn}
use Rattle.fbl_pictures.specs.RunPictures.{IsPlaceText}
use Rattle.fbl_pictures.specs.RunShapes.{shown_entries}
use Rattle.fbl_pictures.proofs.run.undone_text.Goals as goal

pub finding_text-requires-clause-named : goal.finding_text-requires-clause-named
finding_text-requires-clause-named c =
    let said = c.args.said.now in
    let is = c.requires.said.1 in
    named_one c.args.pasts.now c.requires.said.0 (record { place = said.place; determinant = said.determinant }) (record { place = is.place; determinant = is.receipt })

pub finding_text-requires-clause-within : goal.finding_text-requires-clause-within
finding_text-requires-clause-within c q = (let is = c.last.ensures q in omega (arith, is))

pub finding_text-requires-clause-around : goal.finding_text-requires-clause-around
finding_text-requires-clause-around c =
    let run = c.args.pasts.now in
    subst (λ (o : Option ℕ). IfSome o (λ place. place < length (shown_entries run))) (sym c.place_around-around.ensures)
    (restart_drawn run c.requires.said.0 c.args.said.now c.requires.said.1 c.requires.judged c.args.asked c.requires.asked)

pub returns : goal.returns
returns c =
    let run = c.args.pasts.now in
    let said = c.args.said.now in
    let place = subst (λ (w : List ℕ). IsPlaceText c.args.sources.now (Some said.at) w) (sym c.as_str.ensures.value) c.in_ok-place.ensures in
    let words = c.as_str-2.ensures.value ∙ c.in_ok-words.ensures in
    let struck = c.strike.ensures ∙ ap (λ (r : RunParts). r.strike) c.run.ensures.run in
    IfOk-weaker c.finding_text.result _ _ (λ text drawn. undone run c.args.sources.now c.args.asked c.place_around-around.result said _ _ _ (string_bytes text) drawn c.place_around-around.ensures words place
    (record { strike = struck; orphans = refl; receipts = refl; at = refl; moment = c.last.ensures })) c.finding_text.ensures
