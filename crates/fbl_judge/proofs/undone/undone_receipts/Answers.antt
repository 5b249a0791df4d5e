use Rattle.fbl_judge.proofs.Common.{arith, ap, ◌≡◌, ◌≤◌, subst, [], ◌∷◌, inl, inr, refl, append-nil, append_assoc, List, Entry, length, Some, slice_get, slice_get_read, slice_get_within, Position, StandsAt}
use Rattle.std.proofs.lemmas.List.{drop_all}
use Rattle.fbl_trace.proofs.Gets.{drop_next}
use Rattle.fbl_runs.specs.Links.{IsLink, IsPlaceOf}
use Rattle.fbl_judge.specs.Undone.{IsSaidUndone, IsUndone}
use Rattle.fbl_judge.specs.declared.undone.UndoneReceipt.{UndoneReceipt}
use Rattle.fbl_judge.proofs.Audits.{no_one, no_receipt, receipt_at, some_one}
use Rattle.fbl_judge.proofs.PathLaws.{none_message}
use Rattle.fbl_judge.proofs.Places.{position_at}
use Rattle.fbl_judge.proofs.undone.undone_receipts.Goals as goal
use Rattle.fbl_judge.proofs.undone.undone_receipts.Goals.{After-entry-item, in-Some+in-Some-undone+then-not-is_empty+in_ok-push, in-Some+in-Some-undone+else-not-is_empty, in-Some+in_default-undone, in_default}

here : (c : After-entry-item) → slice_get c.args.pasts.now.entries c.loop-place.place ≡ Some c.entry-item.result
here c = subst (λ (es : List Entry). slice_get es c.loop-place.place ≡ Some c.entry-item.result) c.entries-entry-items.ensures.entries
    (slice_get_read c.entries-entry-items.result.now (length c.entries-entry-items.result.now) c.loop-place.place c.entry-item.result refl c.loop-place-test.true c.entry-item.is)

pub loop-place-preserved : goal.loop-place-preserved
loop-place-preserved c rest says =
    let run = c.args.pasts.now in
    let p = c.loop-place.place in
    let e = c.entry-item.result in
    let at_p = here (goal.at.loop-place-preserved c).After-entry-item in
    let next = drop_next run.entries p e at_p in
    let so_far = (rw next at c.loop-place.invariant) in
    let i = position_at run.entries p (slice_get_within run.entries p e at_p) in
    elim c.match-receipt.branch [
      | in-Some+in-Some-undone+then-not-is_empty+in_ok-push w ↦
          let first : UndoneReceipt = record { place = p; determinant = w.in-Some.determinant; at = w.in-Some-undone.at; orphans = w.orphans_of-orphans.result } in
          let undone = subst (IsPlaceOf run.entries (IsUndone run i.0)) w.in-Some-undone.is
          (subst (λ (es : List Entry). (j : Position) → StandsAt es p j → IsLink es j w.link.result) w.index.ensures w.link.ensures i.0 i.1).undone in
          let said : IsSaidUndone run i.0 first = record {
            place = i.1;
            receipt = receipt_at run.entries p i.0 e w.in-Some.determinant at_p w.in-Some.ensures i.1;
            restart = (undone.0, undone.1, undone.2);
            orphans = w.orphans_of-orphans.ensures i.0 i.1;
            some = some_one w.orphans_of-orphans.result w.is_empty.result w.is_empty.ensures w.if-not-is_empty.true;
          } in
          rw (w.undone-is, w.in_ok-push.ensures.items, append_assoc) (so_far (first ∷ rest) (inr (i.0, first, rest, refl, refl, said, says)))
      | in-Some+in-Some-undone+else-not-is_empty w ↦
          rw w.undone-is (so_far rest (inl (
            (λ j is leaves. no_one w.orphans_of-orphans.result w.is_empty.result w.is_empty.ensures w.if-not-is_empty.false leaves.1.0 ((w.orphans_of-orphans.ensures j is.0 leaves.1.0).1 leaves.1.1)),
            says,
          )))
      | in-Some+in_default-undone w ↦
          rw w.undone-is (so_far rest (inl (
            (λ j is leaves. none_message run.entries (IsUndone run j) w.link.result.undone w.in_default-undone.not-Some
                (subst (λ (es : List Entry). (j : Position) → StandsAt es p j → IsLink es j w.link.result) w.index.ensures w.link.ensures j is.0).undone leaves.0.0 leaves.0.1),
            says,
          )))
      | in_default w ↦ rw w.undone-is (so_far rest (inl ((λ j is leaves. no_receipt run.entries p j e is.1.0 at_p w.in_default.ensures is.0 is.1.1), says)))
    ]

pub returns : goal.returns
returns c =
    let run = c.args.pasts.now in
    let all : length run.entries ≤ c.loop-place.place = (let same = ap (λ (es : List Entry). length es) c.entries-entry-items.ensures.entries in let t = c.loop-place-test.false in omega (arith, same, t)) in
    let none = drop_all c.loop-place.place run.entries all in
    let says = c.loop-place.invariant [] (rw none refl) in
    (rw append-nil at says)
