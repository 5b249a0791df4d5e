-- What a run keeps, and strikes one after the other.
use Rattle.fbl_law.proofs.Common.{◌≡◌, ℕ, inl, arith, ap, ◌∙◌, Determinant, Next, Members, SendsWell, GroupRecord, Knowledge, knowledge, IsSound}
use Rattle.fbl_law.proofs.Common.{IsUp, IsStable, RunFrom, RunIsSound, checkpoints, delivers, starts, recovers, strikes, some_member, IsRecorded, member}
use Rattle.fbl_law.specs.GroupLaws.{HeldByMoreStays, StrikeIsOne, StrikesJoin}
use Rattle.std.specs.FinSet as set
use Rattle.fbl_law.proofs.GroupStart.{group_start_is_sound}
use Rattle.fbl_law.proofs.GroupDelivery.{group_delivery_keeps, delivery_keeps_stable}
use Rattle.fbl_law.proofs.GroupRecovery.{group_recovery_keeps}
use Rattle.fbl_law.proofs.Keeping.{group_strike_keeps, group_checkpoint_keeps, strike_keeps_stable, checkpoint_keeps_stable, was_up}
use Rattle.fbl_law.proofs.Recovery.{recovery_keeps_stable}
use Rattle.fbl_law.proofs.Safe.{down_or_both_up, down_or_up, Has-recorded, held-Names, Names-held, never_both, up_if_named, up_if_none}
use Rattle.fbl_law.proofs.OneRecovery.{same_channels}
use Rattle.std.proofs.lemmas.List.{ext_get_or}
use Rattle.fbl_law.proofs.Common.{blank, channel, inr, IsHeldBy, IsHolder, IsStrike, sym}
use Rattle.fbl_trace.proofs.Common.{nat_cmp_total, same_from_contains}

module _ {S N : Type 0} where
  -- what every run keeps
  run_keeps : (next : Next S N) (first r : GroupRecord S N) → SendsWell next → IsSound next first → RunFrom next first r → IsSound next r
  run_keeps next first r well sound starts = sound
  run_keeps next first r well sound (delivers {old = old} {v = v} run s) = group_delivery_keeps next old r v well s (run_keeps next first old well sound run)
  run_keeps next first r well sound (strikes {old = old} {struck = struck} run s within few) = group_strike_keeps next old r struck s within few (run_keeps next first old well sound run)
  run_keeps next first r well sound (checkpoints {old = old} {p = p} run s) = group_checkpoint_keeps S N next old r p s (run_keeps next first old well sound run)
  run_keeps next first r well sound (recovers {old = old} run s) = group_recovery_keeps next old r s (run_keeps next first old well sound run)

  pub run_is_sound : RunIsSound S N
  run_is_sound next config r well allowed run = run_keeps next run.0 r well (group_start_is_sound next config run.0 allowed run.1) run.2

  -- a receipt with more than f holders keeps as many
  stable_kept : (next : Next S N) (first r : GroupRecord S N) (d : Determinant) → SendsWell next → IsSound next first → IsStable first.config.f (knowledge first) d → RunFrom next first r
      → IsStable r.config.f (knowledge r) d
  stable_kept next first r d well sound stable starts = stable
  stable_kept next first r d well sound stable (delivers {old = old} {v = v} run s) =
      rw s.config (delivery_keeps_stable next old r v well s (run_keeps next first old well sound run) d (stable_kept next first old d well sound stable run))
  stable_kept next first r d well sound stable (strikes {old = old} {struck = struck} run s within few) =
      rw s.config (strike_keeps_stable next old r struck s few (run_keeps next first old well sound run) d (stable_kept next first old d well sound stable run))
  stable_kept next first r d well sound stable (checkpoints {old = old} {p = p} run s) =
      checkpoint_keeps_stable next old r p s (run_keeps next first old well sound run) d (stable_kept next first old d well sound stable run)
  stable_kept next first r d well sound stable (recovers {old = old} run s) =
      rw s.rest.config (recovery_keeps_stable next old r s (run_keeps next first old well sound run) d (stable_kept next first old d well sound stable run))

  -- one of the holders has it recorded
  stable-recorded : (f : ℕ) (r : Knowledge S N) (d : Determinant) → IsStable f r d → IsRecorded r d
  stable-recorded f r d stable = search (arith, some_member)

pub held_by_more_stays : (S N : Type 0) → HeldByMoreStays S N
held_by_more_stays S N next old new d well sound held run =
    let stable : IsStable old.config.f (knowledge old) d = (
      held.0,
      held.1,
      λ m among.
          let named = Names-held (member old m).table d (held.2 m among) in
          inl (up_if_named old.config.f (knowledge old) sound.causes.down m d named, named),
    ) in
    let kept = stable_kept next old new d well sound stable run in
    let recorded = stable-recorded new.config.f (knowledge new) d kept in
    (Has-recorded (knowledge new) (run_keeps next old new well sound run).causes.truth d recorded, λ nobody. (kept.0, kept.1, λ m among. still m nobody (kept.2 m among)))
  where
    still : (m : ℕ) → new.down ≡ set.empty → IsHolder (knowledge new) d m → IsHeldBy new d m
    still m nobody (inl holds) = held-Names (member new m).table d holds.1
    still m nobody (inr down) = never_both new.down m down.0 (up_if_none nobody m)

pub strikes_join : (S N : Type 0) → StrikesJoin S N
strikes_join S N next old between new some others first second = record {
  down = second.down ∙ ap (λ (s : Members). set.union s others) first.down ∙ same_from_contains _ _ joined;
  size = second.size ∙ first.size;
  survivors = λ m up. second.survivors m up ∙ first.survivors m (before m up);
  blanks = λ m down. rw first.config at (second.blanks m down);
  shape = rw first.config at second.shape;
  channels = λ q p up_q up_p. second.channels q p up_q up_p ∙ first.channels q p (before q up_q) (before p up_p);
  emptied = second.emptied;
  trace = second.trace ∙ first.trace;
  config = second.config ∙ first.config;
  receipts_ever = second.receipts_ever ∙ first.receipts_ever;
  undone_ever = second.undone_ever ∙ first.undone_ever;
  checkpoints = second.checkpoints ∙ first.checkpoints;
  outside = second.outside ∙ first.outside;
}
  where
    joined : (q : ℕ) → set.contains (set.union (set.union old.down some) others) q ≡ set.contains (set.union old.down (set.union some others)) q
    joined q = grind (
      arith,
      set.contains-union nat_cmp_total (set.union old.down some) others q,
      set.contains-union nat_cmp_total old.down some q,
      set.contains-union nat_cmp_total old.down (set.union some others) q,
      set.contains-union nat_cmp_total some others q,
    )

    before : (m : ℕ) → IsUp (knowledge new) m → IsUp (knowledge between) m
    before m up = was_up between.down others m (rw second.down at up)

-- two strikes of the same members
module _ {S N : Type 0} (next : Next S N) (old new other : GroupRecord S N) (struck : Members) (one : IsStrike next old new struck) (another : IsStrike next old other struck) where
  down : other.down ≡ new.down
  down = another.down ∙ sym one.down

  also : (m : ℕ) → set.contains other.down m ≡ set.contains new.down m
  also m = ap (λ (s : Members). set.contains s m) down

  outside : other.outside ≡ new.outside
  outside = another.outside ∙ sym one.outside

  same_member : (m : ℕ) → member other m ≡ member new m
  same_member m = elim (down_or_up new.down m) [
    | inr up ↦ another.survivors m (also m ∙ up) ∙ sym (one.survivors m up)
    | inl is_down ↦ another.blanks m (also m ∙ is_down) ∙ sym (one.blanks m is_down)
  ]

  same_members : other.members ≡ new.members
  same_members = ext_get_or (blank new.outside) other.members new.members (another.size ∙ sym one.size) (λ m below. rw outside at (same_member m))

  same_channel : (q p : ℕ) → channel other q p ≡ channel new q p
  same_channel q p = elim (down_or_both_up new.down q p) [
    | inr up ↦ another.channels q p (also q ∙ up.0) (also p ∙ up.1) ∙ sym (one.channels q p up.0 up.1)
    | inl is_down ↦ another.emptied q p (elim is_down [ inl h ↦ inl (also q ∙ h) | inr h ↦ inr (also p ∙ h) ]) ∙ sym (one.emptied q p is_down)
  ]

  same_struck : other ≡ new
  same_struck i = record {
    outside = outside i;
    config = (another.config ∙ sym one.config) i;
    members = same_members i;
    checkpoints = (another.checkpoints ∙ sym one.checkpoints) i;
    channels = same_channels old.config.members other.channels new.channels another.shape one.shape (λ q p of_q of_p. same_channel q p) i;
    trace = (another.trace ∙ sym one.trace) i;
    down = down i;
    receipts_ever = (another.receipts_ever ∙ sym one.receipts_ever) i;
    undone_ever = (another.undone_ever ∙ sym one.undone_ever) i;
  }

pub strike_is_one : (S N : Type 0) → StrikeIsOne S N
strike_is_one S N next old new other struck = same_struck next old new other struck
