use Rattle.fbl_runs.proofs.Common.{◌≡◌, ◌∙◌, true, Determinant, Entry, Some, ap, sym, arith, entry_member, false≢true, recorded_in, slice_get}
use Rattle.std.specs.Option.{is_some}
use Rattle.fbl_runs.proofs.Listing.{read_at}
use Rattle.fbl_runs.proofs.lawful.broken_rule.Goals as goal
use Rattle.fbl_runs.proofs.lawful.broken_rule.Goals.{After-is_some, else-is_some-via-then-is_some+else-before-ge-MOST_PAIRS, else-is_some-via-else-is_some}

here : (c : After-is_some) → slice_get c.args.index.now c.args.place ≡ Some c.index-entries-place.result
here c = read_at c.args.index.now c.entries.result.now c.args.place c.index-entries-place.result c.entries.ensures c.requires.place c.index-entries-place.is

-- the entry there is this one
one : (c : After-is_some) (e : Entry) → slice_get c.args.index.now c.args.place ≡ Some e → c.index-entries-place.result ≡ e
one c e there = (let some : Some c.index-entries-place.result ≡ Some e = sym (here c) ∙ there in cc)

is_record : (c : After-is_some) (e : Entry) (d : Determinant) → slice_get c.args.index.now c.args.place ≡ Some e → recorded_in e ≡ Some d → c.is_some.result ≡ true
is_record c e d there is = c.is_some.ensures ∙ ap is_some (c.recorded.ensures ∙ ap recorded_in (one c e there) ∙ is)

pub returns : goal.returns
returns c clocks count =
    let at_place = (goal.at.returns c).After-is_some in (
      λ e d there is. elim c.else-is_some.branch [
        | else-is_some-via-then-is_some+else-before-ge-MOST_PAIRS w ↦ (let few = w.if-before-ge-MOST_PAIRS.false in omega (arith, few, count))
        | else-is_some-via-else-is_some w ↦ absurd (false≢true (sym w.if-is_some.false ∙ is_record at_place e d there is))
      ],
      λ e there. (let below = c.if-number-members.false in let value = c.number.ensures.value in let own = c.member-member.ensures ∙ ap entry_member (one at_place e there) in omega (arith, below, value, own)),
      (c.is_known.ensures clocks).0 c.if-not-is_known.false,
    )
