use Rattle.fbl_verdicts.proofs.Common.{◌≡◌, ◌==◌, ◌<◌, ◌∙◌, false, length, arith, sym, eqb-true}
use Rattle.std.proofs.Common.{rules, vec_len}
use Rattle.fbl_trace.proofs.Common.{nat_tests, slice_get_within}
use Rattle.std.proofs.lemmas.Option.{slice_get-get_or}
use Rattle.fbl_verdicts.proofs.overview.Overview.of.Goals as goal

pub returns-then-is_empty : goal.returns-then-is_empty
returns-then-is_empty c place is =
    let k = c.restarts.ensures.all place is in
    let within = slice_get_within c.restarts.result.now k.0 place k.1 in
    let none = eqb-true (length c.restarts.result.now) 0 (sym c.is_empty.ensures ∙ c.if-is_empty.true) in
    omega (arith, within, none)

pub returns : goal.returns
returns c =
    let restarts = c.restarts.result.now in
    let none : (length restarts == 0) ≡ false = sym c.is_empty.ensures ∙ c.if-is_empty.false in
    let some : 0 < length restarts = grind (arith, nat_tests, none) in
    let here = slice_get-get_or restarts 0 0 some in
    let checked = c.args.checked.now in
    let unsafe_count : vec_len checked.unsafe_receipts ≡ length checked.unsafe_receipts.items = search rules in
    let undone_count : vec_len checked.undone_receipts ≡ length checked.undone_receipts.items = search rules in (
      (_, c.restarts.ensures.each 0 _ here),
      record {
        unsafe_receipts = c.len.ensures ∙ unsafe_count;
        undone_receipts = c.len-2.ensures ∙ undone_count;
        first = c.in_ok-first_places.ensures;
        in_flight = c.in_ok-count_in_flight.ensures;
      },
    )
