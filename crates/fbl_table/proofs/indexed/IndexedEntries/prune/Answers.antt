use Rattle.fbl_table.proofs.Common.{◌≡◌, rules, arith, filter, listed, open_at, filter_same}
use Rattle.fbl_table.proofs.Indexing.{index-pruned}
use Rattle.fbl_table.proofs.indexed.IndexedEntries.prune.Goals as goal

pub returns-then-self-clause-kept : goal.returns-then-self-clause-kept
returns-then-self-clause-kept c =
    let old = c.args.self.now in
    let table = listed old in
    let kept : c.retain.new.self.items ≡ filter (open_at old.limit table) old.open_places.items =
    filter_same _ _ _ (λ x b f' k. search rules) _ _ c.retain.ensures.filtered in
    record {
      index = λ is. rw kept (index-pruned old.limit table old.open_places.items old.stale is);
      room = omega (arith, c.retain.ensures.bound, c.retain.ensures.capacity);
    }
