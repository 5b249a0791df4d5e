-- what is left to write, and that what was written is read back
use Rattle.fbl_records.proofs.Common.{◌≡◌, ◌++◌, map, take, drop, All, items_of}
use Rattle.json.specs.Tree.{items_tokens}
use Rattle.serde_json.specs.Written.{items_outline}
use Rattle.fbl_records.specs.DumpLines.{IsReadBack}
use Rattle.fbl_records.proofs.lines.write_items.Given as goal

abbrev pub invariant-loop-item : goal.invariant-loop-item
invariant-loop-item g l = record {
  before : l.out.before ≡ l.fn.out.before;
  written : l.out.tokens ++ items_tokens (items_outline (items_of (map g.F.Form.form (drop l.item-index l.items)))) ≡ l.fn.out.tokens ++ items_tokens (items_outline (items_of (map g.F.Form.form l.items)));
  reads_back : All (IsReadBack g.F.Form.form g.F.Form.shape g.F.Form.depth) (take l.item-index l.items);
}
