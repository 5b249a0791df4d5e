use Rattle.fbl_judge.proofs.Common.{ap, ◌≡◌, ◌<◌, ◌+◌, ◌↔◌, ◌∙◌, ℕ, true, Option, subst, sym, cut_of, false≢true}
use Rattle.std.proofs.Common.{nat_cmp}
use Rattle.std.specs.FinSet as set
use Rattle.fbl_runs.specs.Records.{IsNextRecord, IsRecordAt}
use Rattle.fbl_judge.specs.Recorded.{HoldsBy, StoresBy}
use Rattle.fbl_judge.proofs.RecordedLaws.{IsOfPassed, IsReached, all_passed, by_hold, by_store, fewer_left, holds_by, is_reached, left, none_passed, one_more, record_within, stored_by}
use Rattle.fbl_judge.proofs.recorded.recorded_at.Goals as goal
use Rattle.fbl_judge.proofs.recorded.recorded_at.Goals.{In-Some, After-next_record-next}

-- the hold or store that is next
next : (c : In-Some) → IsRecordAt c.args.pasts.now.entries c.args.determinant.now c.in-Some.place
next c = subst (λ (o : Option ℕ). IsReached c.args.pasts.now.entries c.args.determinant.now o) c.in-Some.is c.loop-next.invariant.reached

-- and the one behind it
behind : (c : After-next_record-next) → IsRecordAt c.args.pasts.now.entries c.args.determinant.now c.in-Some.place
    → IsNextRecord c.args.pasts.now.entries c.args.determinant.now (c.in-Some.place + 1) c.next_record-next.result
behind c n = c.next_record-next.ensures c.args.determinant.now n

pub loop-next-init : goal.loop-next-init
loop-next-init c =
    let es = c.args.pasts.now.entries in
    let d = c.args.determinant.now in
    let cut = cut_of c.args.moment.now in
    let o = c.first_record-next.result in
    let first = c.first_record-next.ensures in record {
      reached = is_reached es d 0 o first;
      holders = λ q. (
        λ has. absurd (false≢true (sym (ap (λ s. set.contains s q) c.empty.ensures ∙ set.contains-empty nat_cmp q) ∙ has)),
        λ of. absurd (none_passed es d (HoldsBy es cut q) o first of),
      );
      stored = (λ no'. absurd (false≢true no'), λ of. absurd (none_passed es d (StoresBy es cut) o first of));
    }

pub add-requires : goal.add-requires
add-requires c = record_within c.args.pasts.now.entries c.args.determinant.now c.in-Some.place (next (goal.at.add-requires c).In-Some)

pub next_record-next-requires : goal.next_record-next-requires
next_record-next-requires c = record_within c.args.pasts.now.entries c.args.determinant.now c.in-Some.place (next (goal.at.next_record-next-requires c).In-Some)

pub loop-next-preserved : goal.loop-next-preserved
loop-next-preserved c =
    let es = c.args.pasts.now.entries in
    let d = c.args.determinant.now in
    let cut = cut_of c.args.moment.now in
    let here = c.in-Some.place in
    let o = c.next_record-next.result in
    let n = next (goal.at.loop-next-preserved c).In-Some in
    let after = behind (goal.at.loop-next-preserved c).After-next_record-next n in record {
      reached = is_reached es d (here + 1) o after;
      holders = λ q. one_more es d (HoldsBy es cut q) here o n after
          (subst (λ (o : Option ℕ). (set.contains c.loop-next.recorded.holders q ≡ true) ↔ IsOfPassed es d (HoldsBy es cut q) o) c.in-Some.is (c.loop-next.invariant.holders q))
          (c.add.ensures.holders q);
      stored = one_more es d (StoresBy es cut) here o n after
          (subst (λ (o : Option ℕ). (c.loop-next.recorded.is_stored ≡ true) ↔ IsOfPassed es d (StoresBy es cut) o) c.in-Some.is c.loop-next.invariant.stored)
          c.add.ensures.stored;
    }

pub loop-next-smaller : goal.loop-next-smaller
loop-next-smaller c =
    let es = c.args.pasts.now.entries in
    let n = next (goal.at.loop-next-smaller c).In-Some in
    let fewer = fewer_left es c.args.determinant.now c.in-Some.place c.next_record-next.result n (behind (goal.at.loop-next-smaller c).After-next_record-next n) in
    subst (λ (o : Option ℕ). left es c.next_record-next.result < left es o) (sym c.in-Some.is) fewer

pub returns-clause-holders : goal.returns-clause-holders
returns-clause-holders c q =
    let es = c.args.pasts.now.entries in
    let d = c.args.determinant.now in
    let cut = cut_of c.args.moment.now in
    let found = c.loop-next.invariant.holders q in (
      λ has. (let of = found.0 has in by_hold es cut d q of.0 of.2 of.3),
      λ holds. (let by = holds_by es cut d q holds in found.1 (all_passed es d (HoldsBy es cut q) c.loop-next.next c.in_default.not-Some by.0 by.1 by.2)),
    )

pub returns-clause-stored : goal.returns-clause-stored
returns-clause-stored c =
    let es = c.args.pasts.now.entries in
    let d = c.args.determinant.now in
    let cut = cut_of c.args.moment.now in
    let found = c.loop-next.invariant.stored in (
      λ is. (let of = found.0 is in by_store es cut d of.0 of.2 of.3),
      λ stored. (let by = stored_by es cut d stored in found.1 (all_passed es d (StoresBy es cut) c.loop-next.next c.in_default.not-Some by.0 by.1 by.2)),
    )
