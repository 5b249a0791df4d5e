use Rattle.fbl_judge.proofs.Common.{arith, ◌≡◌, ◌+◌, ℕ, suc, subst, refl, Option, Some, None, DependsAt, length, log_of, cut_of, slice_get, slice_get_read, take}
use Rattle.std.proofs.Common.{MatchOption}
use Rattle.fbl_runs.proofs.Common.{take-more, take_all}
use Rattle.fbl_judge.specs.Audits.{IsFirstOnAny}
use Rattle.fbl_judge.specs.Paths.{IsDependentPlace}
use Rattle.fbl_judge.proofs.Audits.{any_first, any_min, any_none, named_at}
use Rattle.fbl_judge.proofs.Places.{place_within}
use Rattle.fbl_judge.proofs.audit.first_on_any.Goals as goal
use Rattle.fbl_judge.proofs.audit.first_on_any.Goals.{After-receipt-item, in-Some+in-Some-first, in-Some+in-None, in_default}

here : (c : After-receipt-item) → slice_get c.args.lost.now c.loop-receipt.receipt-index ≡ Some c.receipt-item.result
here c = slice_get_read c.args.lost.now (length c.args.lost.now) c.loop-receipt.receipt-index c.receipt-item.result refl c.loop-receipt-test.true c.receipt-item.is

pub first_dependent_place-requires : goal.first_dependent_place-requires
first_dependent_place-requires c =
    let i = named_at c.args.pasts.now c.args.lost.now c.loop-receipt.receipt-index c.receipt-item.result c.requires (here (goal.at.first_dependent_place-requires c).After-receipt-item) in
    place_within c.args.pasts.now.entries c.receipt-item.result.place i.0 i.1.place

pub loop-receipt-preserved : goal.loop-receipt-preserved
loop-receipt-preserved c =
    let run = c.args.pasts.now in
    let lost = c.args.lost.now in
    let n = c.loop-receipt.receipt-index in
    let r = c.receipt-item.result in
    let at_n = here (goal.at.loop-receipt-preserved c).After-receipt-item in
    let i = named_at run lost n r c.requires at_n in
    let more : n + 1 ≡ suc n = omega arith in
    let front = c.loop-receipt.invariant in
    let cut = cut_of c.args.moment.now in
    let found = c.first_dependent_place.ensures i.0 i.1.place in
    elim c.match-first_dependent_place.branch [
      | in-Some+in-Some-first w ↦
          let was = subst (λ (o : Option ℕ). IsFirstOnAny run cut (take n lost) c.args.member o) w.in-Some-first.is front in
          let is = subst (λ (o : Option ℕ). MatchOption o (¬ (DependsAt (log_of run.entries) cut i.0 c.args.member)) (IsDependentPlace run i.0 cut c.args.member)) w.in-Some.is found in
          (rw (w.first-is, more, take-more lost n r at_n) (any_min run cut (take n lost) r c.args.member i.0 i.1.place w.in-Some.place is w.in-Some-first.before w.min.result w.min.ensures was))
      | in-Some+in-None w ↦
          let was = subst (λ (o : Option ℕ). IsFirstOnAny run cut (take n lost) c.args.member o) w.in-None.is front in
          let is = subst (λ (o : Option ℕ). MatchOption o (¬ (DependsAt (log_of run.entries) cut i.0 c.args.member)) (IsDependentPlace run i.0 cut c.args.member)) w.in-Some.is found in
          (rw (w.first-is, more, take-more lost n r at_n) (any_first run cut (take n lost) r c.args.member i.0 i.1.place w.in-Some.place is was))
      | in_default w ↦
          let none = by_none _ _ c.first_dependent_place.result w.in_default.not-Some found in
          (rw (w.first-is, more, take-more lost n r at_n) (any_none run cut (take n lost) r c.args.member i.0 i.1.place c.loop-receipt.first front none))
    ]
  where
    by_none : (A : Type 0) (P : ℕ → Type 0) (o : Option ℕ) → ((p : ℕ) → ¬ (o ≡ Some p)) → MatchOption o (¬ A) P → ¬ A
    by_none A P None no' none = none
    by_none A P (Some p) no' some = absurd (no' p refl)

pub returns : goal.returns
returns c = rw (take_all c.loop-receipt.receipt-index c.args.lost.now c.loop-receipt-test.false) at c.loop-receipt.invariant
