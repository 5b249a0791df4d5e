use Rattle.fbl_table.proofs.Common.{◌≡◌, ◌∷◌, ◌++◌, ◌+◌, ◌∙◌, ap, arith, drop, drop_next, length, slice_get, filter_map, listed, append_assoc, length-append, piggybacked, slice_get-get_or, nat_tests}
use Rattle.fbl_table.proofs.Indexing.{open-piggybacked, open-within}
use Rattle.fbl_table.proofs.indexed.IndexedEntries.push_open.Goals as goal
use Rattle.fbl_table.proofs.indexed.IndexedEntries.push_open.Goals.{After-entry_at}

pub loop-place-init : goal.loop-place-init
loop-place-init c = grind (arith, nat_tests, open-piggybacked)

pub entry_at-requires : goal.entry_at-requires
entry_at-requires c =
    let kept = c.args.self.now in
    let within = open-within kept.limit (listed kept) kept.open_places.items (rw c.requires.exact at c.requires.indexed) c.loop-place.place-index in
    (rw (← c.deref-place-items.ensures.value) at within) c.loop-place-test.true

-- what is left begins with the entry at the place
left : (c : After-entry_at) → c.loop-place.carried.items
    ++ (c.entry_at.result ∷ filter_map (slice_get (listed c.args.self.now)) (drop (c.loop-place.place-index + 1) c.args.self.now.open_places.items))
    ≡ c.args.carried.now.items ++ piggybacked c.args.self.now.limit (listed c.args.self.now)
left c = grind (arith, nat_tests, slice_get-get_or, drop_next)

pub push_reserved-requires : goal.push_reserved-requires
push_reserved-requires c =
    let all = ap length (left (goal.at.push_reserved-requires c).After-entry_at) in
    omega (arith, all, length-append c.loop-place.carried.items, length-append c.args.carried.now.items, c.requires.room, c.loop-place.invariant.room)

pub loop-place-preserved : goal.loop-place-preserved
loop-place-preserved c = record {
  so_far = rw (c.push_reserved.ensures.items, append_assoc) (left (goal.at.loop-place-preserved c).After-entry_at);
  room = c.push_reserved.ensures.capacity ∙ c.loop-place.invariant.room;
}
