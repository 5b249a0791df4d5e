use Rattle.std.proofs.lemmas.List.{at_drop_more}
use Rattle.std.proofs.lemmas.Result.{on_ok_weaker}
use Rattle.fbl_records.proofs.Common.{append_assoc, map, take_all, items_of}
use Rattle.json.specs.Tree.{items_tokens}
use Rattle.serde_json.specs.Written.{items_outline}
use Rattle.fbl_records.specs.DumpLines.{IsReadBack}
use Rattle.fbl_records.proofs.Values.{all_read, next_read}
use Rattle.fbl_records.proofs.lines.write_items.Goals as goal

pub loop-item-preserved : goal.loop-item-preserved
loop-item-preserved g c =
    let xs = c.args.items.now in
    let i = c.loop-item.item-index in
    let inv = c.loop-item.invariant in
    let rest = rw (← c.item-item.is) at (at_drop_more (λ ys. items_tokens (items_outline (items_of (map g.F.Form.form ys)))) xs i c.item-item.result c.loop-item-test.true) in
    record {
      before = rw c.in_ok-write.ensures.written.before inv.before;
      written = rw (c.in_ok-write.ensures.written.tokens, append_assoc, ← rest) inv.written;
      reads_back = next_read (IsReadBack g.F.Form.form g.F.Form.shape g.F.Form.depth) xs i c.item-item.result c.loop-item-test.true inv.reads_back (rw (← c.item-item.is) c.in_ok-write.ensures.reads_back);
    }

pub returns-clause-reads_back : goal.returns-clause-reads_back
returns-clause-reads_back g c =
    let back = rw (take_all _ _ c.loop-item-test.false) at c.loop-item.invariant.reads_back in
    on_ok_weaker c.end_array.result (λ _. all_read g.F.Form.form g.F.Form.shape g.F.Form.depth c.args.items.now back) c.end_array.ensures.ok
