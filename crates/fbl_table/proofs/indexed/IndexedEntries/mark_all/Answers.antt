use Rattle.fbl_table.proofs.Common.{◌∙◌, arith, refl, true, sym, false≢true, listed, length-set_value_at, ap, length, length-map, nat_tests}
use Rattle.fbl_table.proofs.Adding.{mark-all, mark-at}
use Rattle.fbl_table.proofs.Indexing.{keeps_more, keeps_stale}
use Rattle.fbl_table.proofs.indexed.IndexedEntries.mark_all.Goals as goal

pub loop-place-init : goal.loop-place-init
loop-place-init c = record { so_far = refl; kept = keeps_stale c.args.self.now true (λ fresh. absurd (false≢true (sym fresh))); stale = refl; size = sym c.len-place-end.ensures.len }

pub loop-place-preserved : goal.loop-place-preserved
loop-place-preserved c =
    let es = c.loop-place.self.entries.entries in
    let more = mark-at c.loop-place.place c.args.members (listed c.args.self.now) es c.index-before.result.now c.loop-place.invariant.so_far c.index-before.ensures in
    record {
      so_far = grind (arith, more);
      kept = keeps_more c.loop-place.invariant.kept c.put.ensures.kept;
      stale = c.put.ensures.stale ∙ c.loop-place.invariant.stale;
      size = ap length c.put.ensures.entries ∙ length-set_value_at es c.loop-place.place c.union.result ∙ c.loop-place.invariant.size;
    }

pub returns-clause-entries : goal.returns-clause-entries
returns-clause-entries c = grind (arith, nat_tests, length-map, mark-all)
