use Rattle.fbl_judge.proofs.Common.{◌≡◌, ◌∙◌, inl, inr, Some, Entry, List, sym, subst, false≢true, slice_get, log_of, Precedes, Dependence, StandsAt, Position}
use Rattle.fbl_runs.specs.Links.{IsLink, IsPlaceOf, IsMessageOf}
use Rattle.fbl_judge.proofs.PathLaws.{carries_event, none_message, tells_event}
use Rattle.fbl_judge.proofs.Places.{place_within, position_at, read_at}
use Rattle.fbl_judge.proofs.paths.dependent_send.Goals as goal
use Rattle.fbl_judge.proofs.paths.dependent_send.Goals.{After-event, After-link}

-- what stands at the place
here : (c : After-event) → slice_get c.args.pasts.now.entries c.args.place ≡ Some c.index-entries-place.result
here c = read_at c.args.pasts.now.entries c.entries.result.now c.args.place c.index-entries-place.result c.entries.ensures.entries c.requires.place c.index-entries-place.is

-- the message that comes in with the entry
message : (c : After-link) (j : Position) → StandsAt c.args.pasts.now.entries c.args.place j → IsPlaceOf c.args.pasts.now.entries (IsMessageOf (log_of c.args.pasts.now.entries) j) c.link.result.message
message c j at_j = (subst (λ (es : List Entry). (j : Position) → StandsAt es c.args.place j → IsLink es j c.link.result) c.index.ensures c.link.ensures j at_j).message

pub returns-in_default : goal.returns-in_default
returns-in_default c i j at_i at_j k carries path =
    c.in_default.not-Some carries.1 (c.event.ensures ∙ carries_event c.args.pasts.now.entries c.args.place c.index-entries-place.result k j (here (goal.at.returns-in_default c).After-event) at_j carries)

pub returns-in_default-message : goal.returns-in_default-message
returns-in_default-message c i j at_i at_j k carries path =
    none_message c.args.pasts.now.entries (IsMessageOf (log_of c.args.pasts.now.entries) j) c.link.result.message c.in_default-message.not-Some (message (goal.at.returns-in_default-message c).After-link j at_j) k (inl carries)

pub precedes-requires-clause-second : goal.precedes-requires-clause-second
precedes-requires-clause-second c =
    let es = c.args.pasts.now.entries in
    let j = position_at es c.args.place c.requires.place in
    let m = subst (IsPlaceOf es (IsMessageOf (log_of es) j.0)) c.in-Some-message.is (message (goal.at.precedes-requires-clause-second c).After-link j.0 j.1) in
    place_within es c.in-Some-message.send m.0 m.1

pub returns-then-precedes : goal.returns-then-precedes
returns-then-precedes c i j at_i at_j =
    let es = c.args.pasts.now.entries in
    let m = subst (IsPlaceOf es (IsMessageOf (log_of es) j)) c.in-Some-message.is (message (goal.at.returns-then-precedes c).After-link j at_j) in
    elim m.2 [
      | inl carries ↦ (m.0, m.1, carries, (c.precedes.ensures i m.0 at_i m.1).0 c.if-precedes.true)
      | inr tells ↦ absurd (tells_event es c.args.place c.index-entries-place.result c.in-Some.field-0 m.0 j (here (goal.at.returns-then-precedes c).After-event) at_j tells (sym c.event.ensures ∙ c.in-Some.is))
    ]

pub returns-else-precedes : goal.returns-else-precedes
returns-else-precedes c i j at_i at_j k carries path =
    let es = c.args.pasts.now.entries in
    let m = subst (IsPlaceOf es (IsMessageOf (log_of es) j)) c.in-Some-message.is (message (goal.at.returns-else-precedes c).After-link j at_j) in
    elim (m.3 k (inl carries)) [
      | inl same ↦ false≢true (sym c.if-precedes.false ∙ (c.precedes.ensures i m.0 at_i m.1).1 (subst (λ (k : Position). Precedes Dependence (log_of es) i k) same path))
      | inr never ↦ never
    ]
