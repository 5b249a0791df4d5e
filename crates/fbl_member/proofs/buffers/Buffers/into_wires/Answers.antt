use Rattle.fbl_member.proofs.Common.{◌≡◌, ℕ, ◌+◌, ◌<◌, List, [], ◌∷◌, ◌++◌, Option, Some, None, Bor, IfSome, All, arith, append-nil, drop_all, length, sym, slice_get, option_copied, append_assoc, messages_from, piggybacked, HasRoom, All-pop, All-push, Message, slice_get_within, get_or_from_slice_get, get_or, drop, Entry, drop_more}
use Rattle.fbl_member.proofs.Once.{carried_once}
use Rattle.fbl_member.proofs.buffers.Buffers.into_wires.Goals as goal

-- what holds of each holds of the one at a place
so-at : {X : Type 0} (P : X → Type 0) (xs : List X) (i : ℕ) (read : Option (Bor X)) → All P xs → option_copied read ≡ slice_get xs i → IfSome read (λ x. P x.now)
so-at P xs i None all at = tt
so-at P xs i (Some x) all at = rw (get_or_from_slice_get xs i x.now x.now (sym at)) at (all i x.now (slice_get_within xs i x.now (sym at)))

-- the messages so far, with one more
more : {N : Type 0} (me before : ℕ) (carried : List Entry) (sends : List (ℕ × N)) (i : ℕ) (s : ℕ × N) (made : List (Message N)) {w : Message N} {whole : List (Message N)}
    → s ≡ get_or sends i s → i < length sends → w ≡ record { from = me; to = s.0; ssn = before + i + 1; note = s.1; carried = carried }
    → made ++ messages_from me (before + i) carried (drop i sends) ≡ whole → (made ++ w ∷ []) ++ messages_from me (before + (i + 1)) carried (drop (i + 1) sends) ≡ whole
more me before carried sends i s made read below is so_far = grind (arith, append_assoc, drop_more sends i s)

pub loop-place-init : goal.loop-place-init
loop-place-init g c = grind arith

pub next_carried-carried-requires-clause-made : goal.next_carried-carried-requires-clause-made
next_carried-carried-requires-clause-made g c = so-at _ _ _ c.last.result c.loop-place.invariant.carried (rw c.deref.ensures.value at c.last.ensures.value)

pub next_carried-carried-requires-clause-room : goal.next_carried-carried-requires-clause-room
next_carried-carried-requires-clause-room g c =
    (All-pop (HasRoom (length (piggybacked c.args.f c.args.table.now))) _ c.take_last.new.self.items (Some c.take_last.result) c.take_last.ensures.items c.loop-place.invariant.room).1

pub new-requires : goal.new-requires
new-requires g c = grind (arith, carried_once)

pub loop-place-preserved : goal.loop-place-preserved
loop-place-preserved g c =
    let carried = piggybacked c.args.f c.args.table.now in
    let is : c.new.result.carried ≡ carried = rw c.new.ensures c.next_carried-carried.ensures in
    record {
      so_far =
          rw c.push_reserved.ensures.items (more c.args.me c.args.before carried c.args.sends.now c.loop-place.place c.index-sends-place.result c.loop-place.wires.items
          c.index-sends-place.is c.loop-place-test.true (rw c.next_carried-carried.ensures at c.new.ensures) c.loop-place.invariant.so_far);
      carried = rw c.push_reserved.ensures.items (All-push (λ (w : Message _). w.carried ≡ carried) c.loop-place.wires.items c.new.result c.loop-place.invariant.carried is);
      wires = omega arith;
      wires_room = omega arith;
      left = omega arith;
      room = (All-pop (HasRoom (length carried)) _ c.take_last.new.self.items (Some c.take_last.result) c.take_last.ensures.items c.loop-place.invariant.room).0;
    }

pub returns : goal.returns
returns g c = rw (drop_all c.loop-place.place c.args.sends.now c.loop-place-test.false, append-nil) at c.loop-place.invariant.so_far
