use Rattle.fbl_judge.proofs.Common.{arith, ℕ, ◌≡◌, ◌∙◌, inl, inr, cases_eq, true, false, ap, sym, subst, refl, Option, Some, None, DependsAt, length, log_of, cut_of, Cut, slice_get, slice_get_read, slice_get_within, Position, StandsAt}
use Rattle.std.proofs.Common.{MatchOption}
use Rattle.std.specs.Option.{is_some}
use Rattle.fbl_runs.proofs.LeadsLaws.{one_position}
use Rattle.fbl_judge.specs.declared.audit.LostReceipt.{LostReceipt}
use Rattle.fbl_judge.specs.Paths.{IsDependentPlace}
use Rattle.fbl_judge.proofs.Audits.{named_at}
use Rattle.fbl_judge.proofs.Places.{place_within}
use Rattle.fbl_runs.specs.Logs.{RunParts}
use Rattle.fbl_judge.proofs.audit.first_cause.Goals as goal
use Rattle.fbl_judge.proofs.audit.first_cause.Goals.{After-receipt-item}

here : (c : After-receipt-item) → slice_get c.args.lost.now c.loop-receipt.receipt-index ≡ Some c.receipt-item.result
here c = slice_get_read c.args.lost.now (length c.args.lost.now) c.loop-receipt.receipt-index c.receipt-item.result refl c.loop-receipt-test.true c.receipt-item.is

-- whether there is a first entry says whether the member depends on the receipt
has_first : (run : RunParts) (i : Position) (cut : Cut) (q : ℕ) (o : Option ℕ) → MatchOption o (¬ (DependsAt (log_of run.entries) cut i q)) (IsDependentPlace run i cut q) → is_some o ≡ true → DependsAt (log_of run.entries) cut i q
has_first run i cut q None none is = cc
has_first run i cut q (Some p) first is = subst (DependsAt (log_of run.entries) cut i) first.2 (first.0.number, first.3.depends, first.3.stands)

no_first : (run : RunParts) (i : Position) (cut : Cut) (q : ℕ) (o : Option ℕ) → MatchOption o (¬ (DependsAt (log_of run.entries) cut i q)) (IsDependentPlace run i cut q) → is_some o ≡ false → ¬ (DependsAt (log_of run.entries) cut i q)
no_first run i cut q None none is depends = none depends
no_first run i cut q (Some p) first is depends = cc

pub first_dependent_place-requires : goal.first_dependent_place-requires
first_dependent_place-requires c =
    let i = named_at c.args.pasts.now c.args.lost.now c.loop-receipt.receipt-index c.receipt-item.result c.requires (here (goal.at.first_dependent_place-requires c).After-receipt-item) in
    place_within c.args.pasts.now.entries c.receipt-item.result.place i.0 i.1.place

pub returns-then-is_some : goal.returns-then-is_some
returns-then-is_some c =
    let run = c.args.pasts.now in
    let at_k = here (goal.at.returns-then-is_some c).After-receipt-item in
    let i = named_at run c.args.lost.now c.loop-receipt.receipt-index c.receipt-item.result c.requires at_k in
    let depends = has_first run i.0 (cut_of c.args.moment.now) c.args.member c.first_dependent_place.result (c.first_dependent_place.ensures i.0 i.1.place) (sym c.is_some.ensures ∙ c.if-is_some.true) in (
      c.loop-receipt.receipt-index,
      at_k,
      (i.0, i.1.place, depends),
      λ l e below. c.loop-receipt.invariant l e below,
    )

pub loop-receipt-preserved : goal.loop-receipt-preserved
loop-receipt-preserved c k e below at_k = elim (cases_eq k c.loop-receipt.receipt-index) [
  | inl same ↦ (λ depends.
      let run = c.args.pasts.now in
      let at_here = here (goal.at.loop-receipt-preserved c).After-receipt-item in
      let both : Some c.receipt-item.result ≡ Some e = sym at_here ∙ ap (slice_get c.args.lost.now) (sym same) ∙ at_k in
      let is : e ≡ c.receipt-item.result = (cc) in
      let i = named_at run c.args.lost.now c.loop-receipt.receipt-index c.receipt-item.result c.requires at_here in
      let own : StandsAt run.entries c.receipt-item.result.place depends.0 = subst (λ (r : LostReceipt). StandsAt run.entries r.place depends.0) is depends.1 in
      let one = one_position run.entries c.receipt-item.result.place depends.0 i.0 own i.1.place in
      no_first run i.0 (cut_of c.args.moment.now) c.args.member c.first_dependent_place.result (c.first_dependent_place.ensures i.0 i.1.place) (sym c.is_some.ensures ∙ c.if-is_some.false)
      (subst (λ (i : Position). DependsAt (log_of run.entries) (cut_of c.args.moment.now) i c.args.member) one depends.2))
  | inr ne ↦ c.loop-receipt.invariant k e (omega (arith, below, ne)) at_k
]

pub returns : goal.returns
returns c k d at_k = c.loop-receipt.invariant k d (let within = slice_get_within c.args.lost.now k d at_k in let end = c.loop-receipt-test.false in omega (arith, within, end)) at_k
