use Rattle.fbl_verdicts.proofs.Common.{◌≡◌, ◌∙◌, Some, sym, false≢true}
use Rattle.std.proofs.Common.{slice_get}
use Rattle.fbl_judge.proofs.Places.{read_at}
use Rattle.fbl_verdicts.proofs.InFlightLaws.{in_flight_sent, in_flight_untaken}
use Rattle.fbl_verdicts.proofs.overview.is_in_flight.Goals as goal
use Rattle.fbl_verdicts.proofs.overview.is_in_flight.Goals.{After-is_send, then-is_send, else-is_send}

here : (c : After-is_send) → slice_get c.args.pasts.now.entries c.args.place ≡ Some c.index-entries-place.result
here c =
    let es = c.args.pasts.now.entries in
    read_at es c.entries.result.now c.args.place c.index-entries-place.result c.entries.ensures.entries c.requires.place c.index-entries-place.is

pub returns-then-stands_at_end : goal.returns-then-stands_at_end
returns-then-stands_at_end c i at_i = elim c.if-is_send.branch [
  | then-is_send w ↦
      let stands = (w.stands_at_end.ensures i at_i).0 (sym w.value-is ∙ c.if-stands_at_end.true) in
      in_flight_untaken c.args.pasts.now.entries c.args.place i at_i c.args.taken.now c.index-entries-place.result c.requires.taken
      (here (goal.at.returns-then-stands_at_end c).After-is_send) (c.is_send.ensures.0 w.if-is_send.true) stands
  | else-is_send w ↦ absurd (false≢true (sym w.if-is_send.false ∙ sym w.value-is ∙ c.if-stands_at_end.true))
]

pub returns-else-stands_at_end : goal.returns-else-stands_at_end
returns-else-stands_at_end c i at_i = (
  λ yes. absurd (false≢true (sym c.if-stands_at_end.false ∙ yes)),
  λ flight. elim c.if-is_send.branch [
    | then-is_send w ↦ w.value-is ∙ (w.stands_at_end.ensures i at_i).1 flight.stands
    | else-is_send w ↦
        let there = here (goal.at.returns-else-stands_at_end c).After-is_send in
        w.value-is ∙ c.is_send.ensures.1 (in_flight_sent c.args.pasts.now.entries c.args.place i at_i c.index-entries-place.result there flight)
  ],
)
