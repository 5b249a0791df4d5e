use Rattle.fbl_table.proofs.Common.{◌∙◌, added, ap, arith, length, listed, sym, take_all}
use Rattle.fbl_table.proofs.Indexing.{keeps_more}
use Rattle.fbl_table.proofs.Adding.{fold_next, lacks-gathering, length-added}
use Rattle.fbl_table.proofs.indexed.IndexedEntries.gather.Goals as goal

pub loop-place-init : goal.loop-place-init
loop-place-init c = record {
  so_far = rw (c.unite_shared.ensures.entries, c.reserve.ensures.entries);
  kept = keeps_more c.reserve.ensures.kept c.unite_shared.ensures.kept;
  room = omega (arith, c.lacking_beyond-lacking.ensures, c.in_ok-reserve.ensures.ok, c.unite_shared.ensures.room);
}

pub add_or_unite-requires : goal.add_or_unite-requires
add_or_unite-requires c none =
    let fewer = lacks-gathering (listed c.args.self.now) (listed c.args.other.now) c.loop-place.place c.entry_at.result c.entry_at.ensures in
    let fewer' = rw (← c.loop-place.invariant.so_far, none) at fewer in
    omega (arith, fewer', c.loop-place.invariant.room)

pub loop-place-preserved : goal.loop-place-preserved
loop-place-preserved c =
    let before = c.loop-place.invariant in
    let one = c.add_or_unite.ensures in
    let table = listed c.args.self.now in
    let other = listed c.args.other.now in
    let e = c.entry_at.result in
    let fewer = rw (← before.so_far) at (lacks-gathering table other c.loop-place.place e c.entry_at.ensures) in
    let longer = ap length one.entries ∙ length-added (listed c.loop-place.self) e in
    record {
      so_far = rw (one.entries, before.so_far) (sym (fold_next added table other c.loop-place.place e c.entry_at.ensures));
      kept = keeps_more before.kept one.kept;
      room = omega (arith, fewer, longer, one.kept.room, before.room);
    }

pub returns-clause-gathered : goal.returns-clause-gathered
returns-clause-gathered c = rw (c.prune.ensures.entries, c.loop-place.invariant.so_far, take_all c.loop-place.place (listed c.args.other.now) (omega arith))

pub returns-clause-kept : goal.returns-clause-kept
returns-clause-kept c = keeps_more c.loop-place.invariant.kept c.prune.ensures.kept
