use Rattle.fbl_judge.proofs.Common.{arith, at, entry_member, sym, subst, Position, ◌≡◌}
use Rattle.fbl_runs.specs.Clocks.{StandsAt, seen}
use Rattle.fbl_runs.proofs.LeadsLaws.{here_stands, same_position}
use Rattle.fbl_judge.proofs.PlaceLaws.{number_within}
use Rattle.fbl_judge.proofs.Places.{read_at}
use Rattle.fbl_judge.proofs.views.restart_at.Goals as goal

pub overflow_add-number : goal.overflow_add-number
overflow_add-number c =
    let here = read_at c.args.index.now c.entries.result.now c.args.place c.index-entries-place.result c.entries.ensures c.requires.place c.index-entries-place.is in
    let within = number_within c.args.index.now c.args.place c.index-entries-place.result c.member-member.result c.link-number.result.number here c.member-member.ensures (λ j stands. (c.link-number.ensures j stands).number) in
    (let n = c.count-count.ensures in omega (arith, within, n))

pub next_restart-requires : goal.next_restart-requires
next_restart-requires c =
    let here = read_at c.args.index.now c.entries.result.now c.args.place c.index-entries-place.result c.entries.ensures c.requires.place c.index-entries-place.is in
    let within = number_within c.args.index.now c.args.place c.index-entries-place.result c.member-member.result c.link-number.result.number here c.member-member.ensures (λ j stands. (c.link-number.ensures j stands).number) in
    omega (arith, within)

pub returns : goal.returns
returns c =
    let here = read_at c.args.index.now c.entries.result.now c.args.place c.index-entries-place.result c.entries.ensures c.requires.place c.index-entries-place.is in
    let e = c.index-entries-place.result in
    let stands = here_stands c.args.index.now c.args.place e here in
    let number : c.link-number.result.number ≡ seen c.args.index.now c.args.place (entry_member e) = (c.link-number.ensures (at (entry_member e) (seen c.args.index.now c.args.place (entry_member e))) stands).number in
    record {
      stands = subst (λ (i : Position). StandsAt c.args.index.now c.args.place i)
          (same_position (at (entry_member e) (seen c.args.index.now c.args.place (entry_member e))) (at c.member-member.result c.link-number.result.number) (sym c.member-member.ensures) (sym number)) stands;
      top = c.next_restart.ensures;
      moment = c.past_and_step.ensures c.requires.before;
    }
