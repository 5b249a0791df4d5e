use Rattle.fbl_judge.proofs.Common.{◌<◌, ◌+◌, ◌∙◌, ℕ, Option, inl, inr, subst, sym, cut_of, false≢true}
use Rattle.fbl_runs.specs.Records.{IsNextRecord, IsRecordAt}
use Rattle.fbl_judge.proofs.RecordedLaws.{IsOfPassed, IsReached, all_passed, fewer_left, is_reached, left, none_passed, one_more, record_within}
use Rattle.fbl_judge.proofs.ReasonLaws.{HasNotCome, is_to_come}
use Rattle.fbl_judge.proofs.reason.next_place.Goals as goal
use Rattle.fbl_judge.proofs.reason.next_place.Goals.{In-Some, After-next_record-next}

-- the hold or store that is next
next : (c : In-Some) → IsRecordAt c.args.pasts.now.entries c.args.determinant.now c.in-Some.place
next c = subst (λ (o : Option ℕ). IsReached c.args.pasts.now.entries c.args.determinant.now o) c.in-Some.is c.loop-next.invariant.reached

-- and the one behind it
behind : (c : After-next_record-next) → IsRecordAt c.args.pasts.now.entries c.args.determinant.now c.in-Some.place
    → IsNextRecord c.args.pasts.now.entries c.args.determinant.now (c.in-Some.place + 1) c.next_record-next.result
behind c n = c.next_record-next.ensures c.args.determinant.now n

pub loop-next-init : goal.loop-next-init
loop-next-init c =
    let es = c.args.pasts.now.entries in
    let d = c.args.determinant.now in
    let first = c.first_record-next.ensures in record {
      reached = is_reached es d 0 c.first_record-next.result first;
      come = none_passed es d (HasNotCome es (cut_of c.args.moment.now)) c.first_record-next.result first;
    }

pub has_come-requires : goal.has_come-requires
has_come-requires c = record_within c.args.pasts.now.entries c.args.determinant.now c.in-Some.place (next (goal.at.has_come-requires c).In-Some)

pub next_record-next-requires : goal.next_record-next-requires
next_record-next-requires c = record_within c.args.pasts.now.entries c.args.determinant.now c.in-Some.place (next (goal.at.next_record-next-requires c).In-Some)

pub returns-then-not-has_come : goal.returns-then-not-has_come
returns-then-not-has_come c =
    let es = c.args.pasts.now.entries in
    let d = c.args.determinant.now in
    let cut = cut_of c.args.moment.now in
    let none = subst (λ (o : Option ℕ). ¬ (IsOfPassed es d (HasNotCome es cut) o)) c.in-Some.is c.loop-next.invariant.come in (
      is_to_come es cut d c.in-Some.place (next (goal.at.returns-then-not-has_come c).In-Some) (λ i stands come. false≢true (sym c.if-not-has_come.true ∙ (c.has_come.ensures i stands).1 come)),
      λ place below to_come. none (place, below, to_come.0, to_come.1),
    )

pub loop-next-preserved : goal.loop-next-preserved
loop-next-preserved c =
    let es = c.args.pasts.now.entries in
    let d = c.args.determinant.now in
    let cut = cut_of c.args.moment.now in
    let n = next (goal.at.loop-next-preserved c).In-Some in
    let after = behind (goal.at.loop-next-preserved c).After-next_record-next n in
    let none = subst (λ (o : Option ℕ). ¬ (IsOfPassed es d (HasNotCome es cut) o)) c.in-Some.is c.loop-next.invariant.come in
    let come : ¬ (HasNotCome es cut c.in-Some.place) = λ not. not.2 ((c.has_come.ensures not.0 not.1).0 c.if-not-has_come.false) in record {
      reached = is_reached es d (c.in-Some.place + 1) c.next_record-next.result after;
      come = λ of. (one_more es d (HasNotCome es cut) c.in-Some.place c.next_record-next.result n after (λ no'. absurd no', none) (λ no'. absurd no', elim [ inl no' ↦ no' | inr not ↦ come not ])).1 of;
    }

pub returns : goal.returns
returns c place to_come = c.loop-next.invariant.come (all_passed c.args.pasts.now.entries c.args.determinant.now (HasNotCome c.args.pasts.now.entries (cut_of c.args.moment.now)) c.loop-next.next c.in_default.not-Some place to_come.0 to_come.1)

pub loop-next-smaller : goal.loop-next-smaller
loop-next-smaller c =
    let es = c.args.pasts.now.entries in
    let n = next (goal.at.loop-next-smaller c).In-Some in
    let fewer = fewer_left es c.args.determinant.now c.in-Some.place c.next_record-next.result n (behind (goal.at.loop-next-smaller c).After-next_record-next n) in
    subst (λ (o : Option ℕ). left es c.next_record-next.result < left es o) (sym c.in-Some.is) fewer
