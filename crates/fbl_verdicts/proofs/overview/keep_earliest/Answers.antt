use Rattle.fbl_verdicts.proofs.Common.{◌<◌, ◌∙◌, None, Some, length, arith, ap, refl, sym}
use Rattle.std.proofs.lemmas.Option.{slice_get-get_or}
use Rattle.fbl_judge.proofs.Places.{member_is, position_at, read_at}
use Rattle.fbl_verdicts.proofs.OverviewLaws.{earliest_first, earliest_least, some_at}
use Rattle.fbl_verdicts.specs.Overviews.{IsEntryOf}
use Rattle.fbl_verdicts.proofs.overview.keep_earliest.Goals as goal
use Rattle.fbl_verdicts.proofs.overview.keep_earliest.Goals.{in-Some, in-None}

pub returns : goal.returns
returns c places are =
    let es = c.args.entries.now in
    let old = c.args.earliest.now in
    let place = c.args.place in
    let e = c.index-entries-place.result in
    let n = c.number-number.result in
    let i = position_at es place c.requires in
    let member = member_is es place e i.0 (read_at es es place e refl c.requires c.index-entries-place.is) i.1 in
    let own : IsEntryOf es n place = (i.0, i.1, sym (c.number-number.ensures.value ∙ c.member.ensures ∙ member)) in
    let within : n < length old = (let room = c.told-earliest in let bound = c.number-number.ensures.bound in omega (arith, room, bound)) in
    elim c.match-earliest-number.branch [
      | in-Some w ↦
          let other = w.in-Some.other in
          rw (w.least-is, w.min-least.ensures) (earliest_least es places old are place n own other (some_at old n other w.in-Some.is))
      | in-None w ↦ rw w.least-is (earliest_first es places old are place n own (slice_get-get_or old n None within ∙ ap Some w.in-None.is))
    ]
