use Rattle.fbl_order.proofs.Common.{ℕ, AreFew, have_lives, placed_of}
use Rattle.fbl_order.proofs.Fronts.{none-from_never}
use Rattle.fbl_order.proofs.Limits.{refuses_many}
use Rattle.fbl_order.proofs.MergeLaws.{begun, is_furthest, left-next, never, reached}
use Rattle.fbl_order.proofs.order.merge_in_order.Goals as goal

pub returns-in-Some-clause-refused : goal.returns-in-Some-clause-refused
returns-in-Some-clause-refused c = refuses_many c.args.n c.args.entries.now c.in-Some.fault c.in-Some.ensures

pub end_of_chain-requires-clause-next : goal.end_of_chain-requires-clause-next
end_of_chain-requires-clause-next c = left-next c.args.n c.args.entries.now c.in_ok-merge.merge c.in_ok-merge.ensures.merges c.in_ok-merge.ensures.none
    c.in-Some-first_left.first c.in-Some-first_left.ensures

pub returns-in_ok-end_of_chain-in-Some-first_left-clause-refused : goal.returns-in_ok-end_of_chain-in-Some-first_left-clause-refused
returns-in_ok-end_of_chain-in-Some-first_left-clause-refused c =
    let n : ℕ = c.args.n in
    let entries = c.args.entries.now in
    let merge = c.in_ok-merge.merge in
    let merges = c.in_ok-merge.ensures.merges in
    let none = c.in_ok-merge.ensures.none in
    let few : AreFew (have_lives entries) entries = c.in_default.ensures in
    let first : ℕ = c.in-Some-first_left.first in
    let comes_never = never n entries merge merges none few first (left-next n entries merge merges none first c.in-Some-first_left.ensures) in
    record {
      none = none-from_never n entries first comes_never;
      run = placed_of entries merge;
      furthest = is_furthest n entries merge merges none few;
      place = first;
      first = (
        λ i below. (placed_of entries merge, begun n entries merge merges, reached n entries merge merges none first i c.in-Some-first_left.ensures below),
        comes_never,
      );
      waits = c.in_ok-end_of_chain-in-Some-first_left.ensures;
    }
