use Rattle.std.proofs.lemmas.List.{append-nil, append_assoc, nil_from_length}
use Rattle.std.specs.Vec.Iter.{into_iter_items}
use Rattle.fbl_runs.specs.declared.recording.RawRecording.TheVariants as raws
use Rattle.std.proofs.Common.{◌≡◌, ◌∙◌, ◌∷◌, ◌++◌, [], ap, map, subst, sym}
use Rattle.fbl_order.proofs.RecordingLaws.{same_fault}
use Rattle.fbl_order.specs.Recordings.{AreRecordings, RefusesVersions}
use Rattle.fbl_order.proofs.recordings.in_one_version.Goals as goal

pub loop-recorded-init : goal.loop-recorded-init
loop-recorded-init c = (ap (map raws.Dump) (sym c.new.ensures.items), c.into_iter-recorded-iterator.ensures.into_iter_gives.0)

pub returns-in_err-recordings-clause-refused : goal.returns-in_err-recordings-clause-refused
returns-in_err-recordings-clause-refused c =
    let rest = into_iter_items c.next.new.self in
    let whole : c.loop-recorded.yielded ++ c.in-Some.recorded ∷ rest ≡ c.args.files.items = rw c.in-Some.ensures.steps.0 at c.loop-recorded.invariant.1 in
    let refused = c.in_err-recordings.ensures.refused c.loop-recorded.yielded rest c.loop-recorded.invariant.0 in
    same_fault (RefusesVersions c.args.files.items) c.in_err-recordings.field-0.0 c.from_residual.result c.from_residual.ensures.1
    (subst (λ all. RefusesVersions all c.in_err-recordings.field-0.0) whole refused)

pub loop-recorded-preserved : goal.loop-recorded-preserved
loop-recorded-preserved c =
    let rest = into_iter_items c.next.new.self in
    let whole : c.loop-recorded.yielded ++ c.in-Some.recorded ∷ rest ≡ c.args.files.items = rw c.in-Some.ensures.steps.0 at c.loop-recorded.invariant.1 in
    (c.in_ok-recordings.ensures.recordings c.loop-recorded.yielded c.loop-recorded.invariant.0, append_assoc c.loop-recorded.yielded (c.in-Some.recorded ∷ []) rest ∙ whole)

pub returns-clause-recordings : goal.returns-clause-recordings
returns-clause-recordings c =
    let none : into_iter_items c.loop-recorded.recorded-iterator ≡ [] = nil_from_length _ (sym c.loop-recorded.recorded-iterator.rest.ok.0 ∙ c.in-None.ensures.steps.0) in
    let whole : c.loop-recorded.yielded ++ [] ≡ c.args.files.items = rw none at c.loop-recorded.invariant.1 in
    subst (λ all. AreRecordings all c.loop-recorded.recordings) (sym (append-nil c.loop-recorded.yielded) ∙ whole) c.loop-recorded.invariant.0
