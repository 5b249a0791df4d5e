use Rattle.fbl_judge.proofs.Common.{arith, ap, sym, ◌≡◌, ◌∙◌, ◌≤◌, ◌↔◌, ℕ, true, Members, subst, [], ◌∷◌, inl, inr, refl, append-nil, append_assoc, List, Entry, length, Some, slice_get, slice_get_read, slice_get_within, Cut, DependsAt, LosesReceiptAt, Position, StandsAt, cut_of, log_of, false≢true}
use Rattle.std.specs.FinSet as set
use Rattle.std.proofs.lemmas.List.{drop_all}
use Rattle.std.proofs.lemmas.List.Elements.{All-append}
use Rattle.fbl_trace.proofs.Gets.{drop_next}
use Rattle.fbl_judge.specs.Audits.{IsLost, IsNamedBy, end_of}
use Rattle.fbl_judge.specs.declared.audit.LostReceipt.{LostReceipt}
use Rattle.fbl_runs.specs.Logs.{RunParts, run_of}
use Rattle.fbl_judge.proofs.Audits.{more_dependents, named_one, no_receipt, none_dependents, orphans, receipt_at, same_dependents}
use Rattle.fbl_judge.proofs.Places.{position_at}
use Rattle.fbl_judge.proofs.audit.audit_of.Goals as goal
use Rattle.fbl_judge.proofs.audit.audit_of.Goals.{After-entries-entry-items, After-entry-item, in-Some+then-loses+in_ok-push, in-Some+else-loses, in_default}

last : (c : After-entries-entry-items) → cut_of c.last-last.result ≡ end_of c.args.pasts.now
last c = λ i q. c.last-last.ensures q i

-- the entry that is read
here : (c : After-entry-item) → slice_get c.args.pasts.now.entries c.loop-place.place ≡ Some c.entry-item.result
here c = subst (λ (es : List Entry). slice_get es c.loop-place.place ≡ Some c.entry-item.result) c.entries-entry-items.ensures.entries
    (slice_get_read c.entries-entry-items.result.now (length c.entries-entry-items.result.now) c.loop-place.place c.entry-item.result refl c.loop-place-test.true c.entry-item.is)

pub loop-place-init : goal.loop-place-init
loop-place-init c = record {
  lost = λ rest are. rw c.new-lost.ensures.items are;
  named = rw c.new-lost.ensures.items (λ k d below. absurd (omega (arith, below)));
  dependents = none_dependents c.args.pasts.now c.empty-dependents.result c.empty-dependents.ensures;
}

pub loses-requires : goal.loses-requires
loses-requires c =
    let run = c.args.pasts.now in
    let e = here (goal.at.loses-requires c).After-entry-item in
    let i = position_at run.entries c.loop-place.place (slice_get_within run.entries c.loop-place.place c.entry-item.result e) in
    (i.0, record { place = i.1; determinant = receipt_at run.entries c.loop-place.place i.0 c.entry-item.result c.in-Some.determinant e c.in-Some.ensures i.1 })

pub loop-place-preserved : goal.loop-place-preserved
loop-place-preserved c =
    let c2 = (goal.at.loop-place-preserved c).After-entries-entry-items in
    let run = c.args.pasts.now in
    let p = c.loop-place.place in
    let e = c.entry-item.result in
    let at_p = here (goal.at.loop-place-preserved c).After-entry-item in
    let next = drop_next run.entries p e at_p in
    let so_far = (rw next at c.loop-place.invariant.lost) in
    let i = position_at run.entries p (slice_get_within run.entries p e at_p) in
    elim c.match-receipt.branch [
      | in-Some+then-loses+in_ok-push w ↦
          let d = w.in-Some.determinant in
          let first : LostReceipt = record { place = p; determinant = d } in
          let lost : IsLost run i.0 = subst (λ (cut : Cut). LosesReceiptAt (run_of run) cut run.strike i.0) (last c2) ((w.loses.ensures i.0 i.1).0 w.if-loses.true) in
          let named : IsNamedBy run i.0 first = record { place = i.1; determinant = receipt_at run.entries p i.0 e d at_p w.in-Some.ensures i.1 } in
          let depend = subst (λ (cut : Cut). (q : ℕ) → (set.contains w.dependents.result q ≡ true) ↔ DependsAt (log_of run.entries) cut i.0 q) (last c2) (w.dependents.ensures i.0 i.1) in
          record {
            lost = λ rest are. rw (w.lost-is, w.in_ok-push.ensures.items, append_assoc) (so_far (first ∷ rest) (inr (i.0, first, rest, refl, refl, named, lost, are)));
            named = rw (w.lost-is, w.in_ok-push.ensures.items) (All-append (λ receipt. (i : Position) × IsNamedBy run i receipt) c.loop-place.lost.items (first ∷ []) c.loop-place.invariant.named (named_one run i.0 first named));
            dependents = rw w.dependents-is (more_dependents run p i.0 c.loop-place.dependents w.dependents.result w.union-dependents.result i.1 lost depend w.union-dependents.ensures c.loop-place.invariant.dependents);
          }
      | in-Some+else-loses w ↦
          let safe : (j : Position) → StandsAt run.entries p j → ¬ (IsLost run j) = λ j at_j lost.
          false≢true (sym w.if-loses.false ∙ (w.loses.ensures j at_j).1 (subst (λ (cut : Cut). LosesReceiptAt (run_of run) cut run.strike j) (sym (last c2)) lost)) in
          record {
            lost = λ rest are. rw w.lost-is (so_far rest (inl (λ j is. safe j is.0, are)));
            named = rw w.lost-is c.loop-place.invariant.named;
            dependents = rw w.dependents-is (same_dependents run p c.loop-place.dependents safe c.loop-place.invariant.dependents);
          }
      | in_default w ↦
          let safe : (j : Position) → StandsAt run.entries p j → ¬ (IsLost run j) = λ j at_j lost. no_receipt run.entries p j e lost.1.0 at_p w.in_default.ensures at_j lost.1.1 in
          record {
            lost = λ rest are. rw w.lost-is (so_far rest (inl (λ j is. safe j is.0, are)));
            named = rw w.lost-is c.loop-place.invariant.named;
            dependents = rw w.dependents-is (same_dependents run p c.loop-place.dependents safe c.loop-place.invariant.dependents);
          }
    ]

pub returns : goal.returns
returns c =
    let run = c.args.pasts.now in
    let strike = c.strike.ensures ∙ ap (λ (run : RunParts). run.strike) c.run.ensures.run in
    let all : length run.entries ≤ c.loop-place.place = (let same = ap (λ (es : List Entry). length es) c.entries-entry-items.ensures.entries in let t = c.loop-place-test.false in omega (arith, same, t)) in
    record {
      lost = (let none = drop_all c.loop-place.place run.entries all in let are = c.loop-place.invariant.lost [] (rw none refl) in (rw append-nil at are));
      named = c.loop-place.invariant.named;
      orphans = orphans run c.loop-place.place c.loop-place.dependents c.without-orphans.result all c.loop-place.invariant.dependents
          (c.without-orphans.ensures ∙ ap (λ (s : Members). set.difference c.loop-place.dependents s) strike);
    }
