use Rattle.fbl_group.proofs.Common.{◌≡◌, ℕ, ◌+◌, ◌<◌, ◌++◌, ◌∷◌, [], List, Entry, length, get_or, take, refl, resent, map_more, IsOnce-piggybacked, take_all}
use Rattle.fbl_group.proofs.recovery.resend.put_again.Goals as goal

-- one message more
resent-more : {N : Type 0} (q p : ℕ) (carried : List Entry) (sends : List (ℕ × N)) {i : ℕ} {s : ℕ × N} → i < length sends → s ≡ get_or sends i s
    → resent q p carried (take i sends) ++ record { from = q; to = p; ssn = s.0; note = s.1; carried = carried } ∷ [] ≡ resent q p carried (take (i + 1) sends)
resent-more q p carried sends {i = i} {s = s} below read = rw (map_more _ sends i s below, ← read) refl

pub new-requires : goal.new-requires
new-requires g c = rw c.in_ok-carried.ensures.value (IsOnce-piggybacked c.args.f c.args.table.now c.len-distinct_entries.ensures.unique)

pub loop-send-preserved : goal.loop-send-preserved
loop-send-preserved g c = record {
  so_far =
      rw (c.in_ok-push_back.ensures.items, c.loop-send.invariant.so_far, c.new.ensures, c.in_ok-carried.ensures.value) (resent-more c.args.from c.args.to _ c.args.unsent.now c.loop-send-test.true c.send-item.is);
  passed = c.pass_on.ensures.passed;
}

pub returns-clause-made : goal.returns-clause-made
returns-clause-made g c = rw (take_all c.loop-send.send-index c.args.unsent.now c.loop-send-test.false) at c.loop-send.invariant.so_far
