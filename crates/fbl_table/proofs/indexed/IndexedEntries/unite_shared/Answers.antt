use Rattle.fbl_table.proofs.Common.{◌∙◌, sym, arith, added, listed}
use Rattle.fbl_table.proofs.Adding.{fold_next}
use Rattle.fbl_table.proofs.Indexing.{keeps_more}
use Rattle.fbl_table.proofs.indexed.IndexedEntries.unite_shared.Goals as goal

pub loop-place-preserved : goal.loop-place-preserved
loop-place-preserved c =
    let before = c.loop-place.invariant in let united = c.unite.ensures in
    record {
      so_far = rw (united.entries, before.so_far) (sym (fold_next added (listed c.args.self.now) (listed c.args.other.now) c.loop-place.place c.entry_at-entry.result c.entry_at-entry.ensures));
      same = λ place e below at. united.same e.det place ∙ before.same place e below at;
      kept = keeps_more before.kept united.kept;
      room = omega (arith, before.room, united.room);
    }
