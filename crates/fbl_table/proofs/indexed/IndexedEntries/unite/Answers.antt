use Rattle.fbl_table.proofs.Common.{◌≡◌, ◌∙◌, sym, eqb-true, or_parts}
use Rattle.std.specs.FinSet as set
use Rattle.fbl_table.proofs.Adding.{added_there, added-nothing, found_at, has_set, within_at}
use Rattle.fbl_table.proofs.Indexing.{keeps_more, keeps_stale, open_less}
use Rattle.fbl_table.proofs.indexed.IndexedEntries.unite.Goals as goal

pub returns-then-is_empty-clause-entries : goal.returns-then-is_empty-clause-entries
returns-then-is_empty-clause-entries c =
    let es = c.args.self.now.entries.entries in
    let empty = eqb-true (set.len c.without.result) 0 (sym c.is_empty.ensures ∙ c.if-is_empty.true) in
    let none : set.len (set.difference c.args.known c.index-before.result.now) ≡ 0 = rw c.without.ensures at empty in
    added-nothing es (record { det = c.args.det.now; known = c.args.known }) _ (found_at es c.args.det.now c.args.place _ c.len-distinct.ensures.unique c.requires c.index-before.ensures).1 none

pub returns-clause-entries : goal.returns-clause-entries
returns-clause-entries c =
    let es = c.args.self.now.entries.entries in
    let found = found_at es c.args.det.now c.args.place _ c.len-distinct.ensures.unique c.requires c.index-before.ensures in
    rw (c.put.ensures.entries, c.union-united.ensures, found.0) (added_there es (record { det = c.args.det.now; known = c.args.known }) _ found.1)

pub returns-clause-kept : goal.returns-clause-kept
returns-clause-kept c = keeps_more (keeps_stale c.args.self.now _ (λ fresh. (or_parts c.args.self.now.stale c.closes.result fresh).0)) c.put.ensures.kept

pub index-before-requires : goal.index-before-requires
index-before-requires c = within_at c.args.self.now.entries.entries c.args.det.now c.args.place c.requires

pub put-requires-clause-more : goal.put-requires-clause-more
put-requires-clause-more c = rw c.union-united.ensures (open_less c.args.self.now.limit c.index-before.result.now c.args.known)

pub returns-clause-same : goal.returns-clause-same
returns-clause-same c d at = rw c.put.ensures.entries (has_set c.args.self.now.entries.entries c.args.place c.union-united.result d at)
