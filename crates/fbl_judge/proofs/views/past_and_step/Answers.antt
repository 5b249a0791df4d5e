use Rattle.fbl_runs.specs.Clocks.{cut_of}
use Rattle.fbl_judge.proofs.PlaceLaws.{number_within, past_and_step_at}
use Rattle.fbl_judge.proofs.Places.{read_at}
use Rattle.fbl_judge.proofs.views.past_and_step.Goals as goal

pub step_end-end-requires : goal.step_end-end-requires
step_end-end-requires c =
    let here = read_at c.args.index.now c.entries.result.now c.args.place c.index-entries-place.result c.entries.ensures c.requires c.index-entries-place.is in
    number_within c.args.index.now c.args.place c.index-entries-place.result c.member-member.result c.link.result.number here c.member-member.ensures (λ j stands. (c.link.ensures j stands).number)

pub returns : goal.returns
returns c clocks =
    let here = read_at c.args.index.now c.entries.result.now c.args.place c.index-entries-place.result c.entries.ensures c.requires c.index-entries-place.is in
    past_and_step_at c.args.index.now c.args.place c.index-entries-place.result c.member-member.result c.link.result.number c.step_end-end.result here c.member-member.ensures (λ j stands. (c.link.ensures j stands).number)
    c.step_end-end.ensures (cut_of c.past.result) (cut_of c.reaching.result) (λ j stands. c.past.ensures j clocks stands) c.reaching.ensures
