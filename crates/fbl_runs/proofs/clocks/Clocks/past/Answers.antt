use Rattle.fbl_runs.proofs.Common.{◌≡◌, ◌∙◌, Position, Some, ap, arith, entry_member, length, refl, slice_get, slice_get_read, sym}
use Rattle.std.proofs.Common.{Fits, rules, w64}
use Rattle.fbl_runs.specs.Clocks.{StandsAt}
use Rattle.fbl_runs.proofs.ClockPasses.{number_within, past_at}
use Rattle.fbl_runs.proofs.clocks.Clocks.past.Goals as goal
use Rattle.fbl_runs.proofs.clocks.Clocks.past.Goals.{After-link}

pub overflow_add-link : goal.overflow_add-link
overflow_add-link c =
    let few = number_within c.args.index.now c.args.place c.link.result c.requires (λ j stands. (c.link.ensures j stands).number) in
    let same = c.entries.ensures in
    let room : Fits w64 (length c.entries.result.now) = search rules in
    omega (arith, few, room, ap length same)

-- whose the entry is
member : (c : After-link) (j : Position) → StandsAt c.args.index.now c.args.place j → c.number.result ≡ j.member
member c j stands =
    let x = c.index-entries-place.result in
    let there : slice_get c.args.index.now c.args.place ≡ Some x = slice_get_read c.args.index.now (length c.args.index.now) c.args.place x refl c.requires (rw c.entries.ensures at c.index-entries-place.is) in
    let same : x ≡ stands.0 = (let s : Some x ≡ Some stands.0 = sym there ∙ stands.1 in cc) in
    c.number.ensures.value ∙ c.member-member.ensures ∙ ap entry_member same ∙ stands.2

pub returns : goal.returns
returns c j are stands =
    past_at c.args.index.now c.args.self.now are c.args.place j stands c.number.result c.link.result.number (member (goal.at.returns c).After-link j stands) (c.link.ensures j stands).number c.reached.result
    c.reached.ensures
