use Rattle.fbl_runs.proofs.Common.{arith, ℕ, ◌≡◌, ◌<◌, ◌∙◌, Option, Some, None, true, false, not, ap, sym, subst, log_of, slice_get, slice_get_within, Determinant, Entry, IsRecord}
use Rattle.std.proofs.Common.{below_more}
use Rattle.std.specs.Option.{is_some}
use Rattle.fbl_runs.specs.Entries.{recorded_in}
use Rattle.fbl_runs.proofs.index.Index.step_end.Goals as goal

a_record : (e : Entry) (o : Option Determinant) → o ≡ recorded_in e → is_some o ≡ true → IsRecord e
a_record e None is some = cc
a_record e (Some d) is some = (d, sym is)

no_record : (e : Entry) (o : Option Determinant) → o ≡ recorded_in e → is_some o ≡ false → ¬ (IsRecord e)
no_record e None is none record' = (let no : None ≡ Some record'.0 = is ∙ record'.1 in cc)
no_record e (Some d) is none record' = cc

pub loop-next-preserved : goal.loop-next-preserved
loop-next-preserved c k after below = below_more (λ (k : ℕ). c.args.number < k → (e : Entry) × (slice_get (log_of c.args.self.now c.args.member) k ≡ Some e) × IsRecord e) c.loop-next.next
    (λ k before after. c.loop-next.invariant k after before)
    (λ after. (c.entry.result.now, c.entry.ensures, a_record c.entry.result.now c.recorded.result c.recorded.ensures (c.is_none.ensures ∙ ap not c.if-is_none.false))) k
    below after

pub returns-then-is_none : goal.returns-then-is_none
returns-then-is_none c = record {
  after = omega arith;
  records = c.loop-next.invariant;
  last = λ e there.
      let same : c.entry.result.now ≡ e = (let s : Some c.entry.result.now ≡ Some e = sym c.entry.ensures ∙ there in cc) in
      subst (λ (x : Entry). ¬ (IsRecord x)) same (no_record c.entry.result.now c.recorded.result c.recorded.ensures (c.is_none.ensures ∙ ap not c.if-is_none.true));
}

pub returns : goal.returns
returns c = record {
  after = (let w = c.requires in let n = c.count-count.ensures in omega (arith, w, n));
  records = λ k after below. c.loop-next.invariant k after (let t = c.loop-next-test.false in omega (arith, t, below));
  last = λ e there. absurd (let w = slice_get_within (log_of c.args.self.now c.args.member) c.count-count.result e there in omega (arith, w, c.count-count.ensures));
}
