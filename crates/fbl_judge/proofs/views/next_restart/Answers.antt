use Rattle.fbl_judge.proofs.Common.{arith, ap, at, cases_eq, inl, inr, sym, subst, ◌≡◌, ◌∙◌, ℕ, Some, Restart, log_of, slice_get}
use Rattle.fbl_runs.proofs.Listing.{stands_at}
use Rattle.fbl_judge.proofs.RestartLaws.{is_restart, not_restart}
use Rattle.fbl_judge.proofs.Places.{place_within, read_at}
use Rattle.fbl_judge.proofs.views.next_restart.Goals as goal

pub returns-then-is_some : goal.returns-then-is_some
returns-then-is_some c =
    let within = place_within c.args.index.now c.place.result (at c.args.member c.loop-number.number) c.place.ensures in
    let here = read_at c.args.index.now c.entries.result.now c.place.result c.index-entries-place.result c.entries.ensures within c.index-entries-place.is in
    let there = stands_at c.args.index.now c.place.result (at c.args.member c.loop-number.number) c.index-entries-place.result c.place.ensures here in
    let back = is_restart c.index-entries-place.result c.restart.result c.is_some.result c.restart.ensures c.is_some.ensures c.if-is_some.true in
    record {
      after = omega arith;
      within = (let t = c.loop-number-test.true in let n = c.count-count.ensures in omega (arith, t, n));
      none = c.loop-number.invariant;
      next = λ below. (back.0, there ∙ ap Some back.1);
    }

pub loop-number-preserved : goal.loop-number-preserved
loop-number-preserved c k r after before at_k = elim (cases_eq k c.loop-number.number) [
  | inr ne ↦ c.loop-number.invariant k r after (omega (arith, before, ne)) at_k
  | inl same ↦
      let within = place_within c.args.index.now c.place.result (at c.args.member c.loop-number.number) c.place.ensures in
      let here = read_at c.args.index.now c.entries.result.now c.place.result c.index-entries-place.result c.entries.ensures within c.index-entries-place.is in
      let there = stands_at c.args.index.now c.place.result (at c.args.member c.loop-number.number) c.index-entries-place.result c.place.ensures here in
      let at_n = subst (λ (k : ℕ). slice_get (log_of c.args.index.now c.args.member) k ≡ Some (Restart r)) same at_k in
      let is : c.index-entries-place.result ≡ Restart r = (let s : Some c.index-entries-place.result ≡ Some (Restart r) = sym there ∙ at_n in cc) in
      not_restart c.index-entries-place.result c.restart.result c.is_some.result c.restart.ensures c.is_some.ensures c.if-is_some.false r is
]
