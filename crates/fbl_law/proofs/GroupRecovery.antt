-- What stays in a recovery, the events before their member's first lost receipt; what is left is lawful, the group stays sound, and which
-- receipts are undone.
use Rattle.fbl_law.proofs.Common.{receipt-number, ◌≡◌, ℕ, ◌<◌, ◌≤◌, inl, inr, List, length, map, Some, refl, ap, ◌∙◌, arith, true, sym, Determinant, Event, mark_of, receipt_of, Has, itself, Next}
use Rattle.fbl_law.proofs.Common.{Lawful, MemberRecord, IsUp, Stays, IsEventCut, GroupRecord, member, member_checkpoint, marks, knowledge, receipts_at, IsFold, IsReplayed, IsSound, IsRecovery}
use Rattle.fbl_law.proofs.Common.{length-left, Mark, ◌+◌, not, slice_get, filter, determinant_of, receipts, is_receipt, recovered_trace, nat_tests, sends_of, Progress, IsDown, stays_by, Send, Receipt}
use Rattle.fbl_law.proofs.Common.{is_recorded, length-filter_both, same_from_decides, At, Bool, Entry, UpTo, before_lost, cases_eq, cond, count_by, eqb-self, fails_before_first, false, false≢true}
use Rattle.fbl_law.proofs.Common.{get_or_from_slice_get, is_held, is_lost, is_receipt_of, is_send_of, member_of, nat_lt, passes_at_first, position_or_len, recovery_table, slice_get_within, stays_in}
use Rattle.fbl_law.proofs.Common.{GainsHolders, GainsTheDown, LeavesRecorded, OfRecovery}
use Rattle.std.specs.FinSet as set
use Rattle.fbl_trace.specs.declared.trace.Event.TheVariants as event
use Rattle.fbl_law.proofs.ReplayedRecords.{log-length, all-taken, replayed-kept, fold-replayed, replayed-fold, mark-at, number-front}
use Rattle.fbl_law.proofs.Safe.{down_or_up, down_or_both_up, never_both, up_if_none, IsRecorded-reached, Names-held, held-Names, once_recovery_table, gathered_recorded, recorded_gathered}
use Rattle.fbl_law.proofs.Recovery.{recovery_keeps, cut-recorded, cut_is_recorded, recovery_gains_holders, cut-causes, cut-was, cut-left, cut-obeys, cut-keeps_up, recorded-cut, cut-marks}
use Rattle.fbl_law.proofs.Receipts.{at-most, length-receipts_at}
use Rattle.fbl_law.proofs.Promises.{received_counted}
use Rattle.fbl_law.proofs.CutLawful.{note-stays, note-was, Lawful-kept, count-front, marks-filter}
use Rattle.fbl_law.proofs.Keeping.{recorded_test}
use Rattle.fbl_law.proofs.Lists.{filter-agree, filter_map-after, some-at}

-- the events before their member's first lost receipt
module _ {S N : Type 0} (next : Next S N) (old : GroupRecord S N) (sound : IsSound next old) where
  abbrev table : List Entry
  table = recovery_table (knowledge old)

  abbrev keep : Mark → Bool
  keep e = stays_in old e

  -- at which place the member has its first lost receipt
  abbrev first : ℕ → ℕ
  first m = position_or_len (is_lost table m) (marks old)

  -- of a member that is down exactly the events before it stay
  keep-at : (i : ℕ) (e : Mark) → At (marks old) i e → IsDown (knowledge old) (member_of e) → keep e ≡ nat_lt i (first (member_of e))
  keep-at i (Send q k p) here down =
      rw down (number-front (is_send_of q) (marks old) i (first q) k (Send q k p) here (eqb-self q) (sound.lawful.well_formed i (Send q k p) here).3)
  keep-at i (Receipt p r q k) here down =
      rw down (number-front (is_receipt_of p) (marks old) i (first p) r (Receipt p r q k) here (eqb-self p) (sound.lawful.well_formed i (Receipt p r q k) here).3)

  keep-up : (e : Mark) → IsUp (knowledge old) (member_of e) → keep e ≡ true
  keep-up e up = grind (arith, nat_tests)

  keep-stays : (e : Mark) → Has (marks old) e → keep e ≡ true → Stays (knowledge old) e
  keep-stays e has kept down c at_e up_to =
      gathered_recorded sound.causes c (Names-held table c (held up_to)) where
        before : (i j : ℕ) → i ≤ j → At (marks old) i (receipt_of c) → At (marks old) j e → is_held table c ≡ true
        before i j below at_c there =
            let none = fails_before_first (is_lost table (member_of e)) (marks old) i (receipt_of c) (grind (arith, nat_tests, keep-at j e there down)) in
            grind (arith, nat_tests, rw (get_or_from_slice_get (marks old) i (receipt_of c) (receipt_of c) at_c) at none)

        held : UpTo (marks old) (receipt_of c) e → is_held table c ≡ true
        held up_to = search (arith, before)

  -- the event at the place is a lost receipt
  first-lost : (m : ℕ) (e : Mark) → At (marks old) (first m) e → (d : Determinant) × (e ≡ receipt_of d) × (d.to ≡ m) × (is_held table d ≡ false)
  first-lost m e here =
      search (arith, get_or_from_slice_get (marks old) (first m) e e here, passes_at_first (is_lost table m) (marks old) e, slice_get_within (marks old) (first m) e here)

  stays-keep : (e : Mark) → Has (marks old) e → Stays (knowledge old) e → keep e ≡ true
  stays-keep e has stays = elim (down_or_up old.down (member_of e)) [
    | inr up ↦ keep-up e up
    | inl down ↦
        let none = λ (past : first (member_of e) ≤ has.0).
        let there = some-at (marks old) (first (member_of e)) (omega (arith, slice_get_within (marks old) has.0 e has.1)) in
        let lost = first-lost (member_of e) there.0 there.1 in
        let here : At (marks old) (first (member_of e)) (receipt_of lost.0) = there.1 ∙ ap Some lost.1 in
        let up_to : UpTo (marks old) (receipt_of lost.0) e = search (arith, cases_eq) in
        let is = held-Names table lost.0 (recorded_gathered sound.causes lost.0 (stays down lost.0 lost.2 up_to)) in
        false≢true (sym lost.3 ∙ is) in
        keep-at has.0 e has.1 down ∙ grind (arith, nat_tests, none)
  ]

  -- they are the cut
  pub recovered_trace-cut : IsEventCut (Stays (knowledge old)) old.trace (recovered_trace old)
  recovered_trace-cut = (keep, refl, λ e has. (keep-stays e has, stays-keep e has))

  -- where each member stops
  abbrev stop : ℕ → ℕ
  stop m = cond (set.contains old.down m) (first m) (length old.trace)

  pub recovered_lawful : Lawful next old.config.members old.config.starts (recovered_trace old)
  unfolding recovered_trace-cut
  recovered_lawful = Lawful-kept next old.config.members old.config.starts keep old.trace sound.lawful (cut-causes sound recovered_trace-cut) stop tells ends where
    tells : (i : ℕ) (e : Event N) → slice_get old.trace i ≡ Some e → keep (mark_of e) ≡ nat_lt i (stop (member_of (mark_of e)))
    tells i e here = search (arith, down_or_up, keep-at, mark-at, keep-up, slice_get_within)

    receipt_is : (e : Event N) (d : Determinant) → mark_of e ≡ receipt_of d → e ≡ event.Receipt d.to d.rsn d.from d.ssn
    receipt_is e d is = grind arith

    ends : (p : ℕ) (e : Event N) → slice_get old.trace (stop p) ≡ Some e → (r : ℕ) × (q : ℕ) × (k : ℕ) × (e ≡ event.Receipt p r q k)
    ends p e here = search (arith, down_or_up old.down p, slice_get_within old.trace (stop p) e here, first-lost p (mark_of e), mark-at old.trace (first p) e, receipt_is e)

-- a cut of a sound group's trace
module _ {S N : Type 0} {next : Next S N} {old : GroupRecord S N} (sound : IsSound next old) {new : List (Event N)} (cut : IsEventCut (Stays (knowledge old)) old.trace new) where
  -- two cuts are the same
  pub cut-one : new ≡ recovered_trace old
  unfolding recovered_trace-cut
  cut-one = cut.1 ∙ filter-agree (λ e. cut.0 (mark_of e)) (λ e. stays_in old (mark_of e)) old.trace (λ i e here.
      let there : Has (marks old) (mark_of e) = (i, mark-at old.trace i e here) in
      same_from_decides (cut.0 (mark_of e)) (stays_in old (mark_of e)) (cut.2 (mark_of e) there) ((recovered_trace-cut next old sound).2 (mark_of e) there))

  pub cut-shorter : length new ≤ length old.trace
  cut-shorter = rw cut.1 (length-left (λ e. cut.0 (mark_of e)) old.trace)

  -- what a member has replayed of the trace it has replayed of the cut, where its receipts so far are left
  replay-survives : (m : ℕ) (x : MemberRecord S N) → ((d : Determinant) → Has (marks old) (receipt_of d) → d.to ≡ m → d.rsn ≤ x.received → Has (map mark_of new) (receipt_of d))
      → IsReplayed next old.config.members old.config.starts old.trace m x → IsReplayed next old.config.members old.config.starts new m x
  replay-survives m x left =
      replayed-kept next old.config.members old.config.starts old.trace new m x sound.lawful.well_formed (cut-obeys sound cut)
      (λ q k x y was now. let kept = note-was old.config.members cut.0 old.trace sound.lawful.well_formed (cut-causes sound cut) q k y (rw cut.1 at now) in cc) left

  -- a checkpoint's receipts are recorded, so they stay
  pub checkpoint-survives : (m : ℕ) → m < old.config.members → IsReplayed next old.config.members old.config.starts new m (member_checkpoint old m)
  checkpoint-survives m below = replay-survives m (member_checkpoint old m)
      (λ d there to within. recorded-cut sound cut d (IsRecorded-reached old.config.f (knowledge old) sound.causes.closed d (receipt_of d) (rw to within) (itself there)))
      (sound.saved m below)

  -- a survivor's receipts all stay
  pub survivor-replays : (m : ℕ) → m < old.config.members → IsUp (knowledge old) m
      → IsReplayed next old.config.members old.config.starts new m (member old m) × ((member old m).received ≡ length (receipts_at (map mark_of new) m))
  survivor-replays m below up =
      let replays = replay-survives m (member old m)
      (λ d there to within. cut-left sound cut (receipt_of d) there (cut-keeps_up sound cut m up (receipt_of d) there to))
      (fold-replayed sound.lawful.well_formed (sound.folds m below up)) in
      let few = at-most old.config.members (map mark_of new) m (member old m).received (cut-obeys sound cut) (λ d there to.
      let number = receipt-number old.config.members (marks old) d.to d.rsn d.from d.ssn sound.lawful.well_formed (cut-was sound cut (receipt_of d) there).0 in
      omega (arith, rw to at number, received_counted next old sound m below up)) in
      (replays, omega (arith, replays.within, few))

  -- so it is at their fold; where the members that were down are too, each is
  pub folds-all : (r : GroupRecord S N) → r.trace ≡ new → r.config ≡ old.config → ((m : ℕ) → IsUp (knowledge old) m → member r m ≡ member old m)
      → ((m : ℕ) → m < old.config.members → IsDown (knowledge old) m → IsFold next r m) → (m : ℕ) → m < old.config.members → IsFold next r m
  folds-all r trace config survivors rebuilt m below = elim (down_or_up old.down m) [
    | inl down ↦ rebuilt m below down
    | inr up ↦
        let all = survivor-replays m below up in
        replayed-fold (rw (config, trace) (cut-obeys sound cut)) (rw (config, trace, survivors m up) all.0) (rw (trace, survivors m up) all.1)
  ]

  kept-recorded : (i : ℕ) (e : Mark) (d : Determinant) → slice_get (marks old) i ≡ Some e → determinant_of e ≡ Some d → cut.0 e ≡ is_recorded old d
  kept-recorded i e d here is =
      let receipt = is_receipt e d is in
      let there : Has (marks old) (receipt_of d) = (i, here ∙ ap Some receipt) in
      ap cut.0 receipt ∙ same_from_decides (cut.0 (receipt_of d)) (is_recorded old d) (
        λ kept. cut-recorded sound cut d (cut-left sound cut (receipt_of d) there kept),
        λ recorded. (cut-was sound cut (receipt_of d) (recorded-cut sound cut d recorded)).1,
      ) (recorded_test next old d sound)

  -- the receipts of the cut are those that are recorded
  pub cut-receipts : receipts (map mark_of new) ≡ filter (is_recorded old) (receipts (marks old))
  cut-receipts = ap receipts (cut-marks sound cut) ∙ filter_map-after cut.0 (is_recorded old) determinant_of (marks old) kept-recorded

  -- so the receipts that the trace loses are those that aren't
  pub cut-undone : length (receipts (map mark_of new)) + length (filter (λ d. not (is_recorded old d)) (receipts (marks old))) ≡ length (receipts (marks old))
  cut-undone = rw cut-receipts (length-filter_both (is_recorded old) (λ d. not (is_recorded old d)) (λ d. refl) (receipts (marks old)))

-- the trace that recovery leaves, by how far each member has come once all is replayed
module _ {S N : Type 0} {next : Next S N} {old : GroupRecord S N} (sound : IsSound next old) (work : ℕ → MemberRecord S N)
    (replays : (p : ℕ) → p < old.config.members → IsDown (knowledge old) p → IsReplayed next old.config.members old.config.starts (recovered_trace old) p (work p))
    (all : (p : ℕ) → p < old.config.members → IsDown (knowledge old) p → (work p).received ≡ length (receipts_at (map mark_of (recovered_trace old)) p)) where
  abbrev lawful : Lawful next old.config.members old.config.starts (recovered_trace old)
  lawful = recovered_lawful next old sound

  -- the log of each member that was down has its sends in the cut
  log-sent : (p : ℕ) → p < old.config.members → IsDown (knowledge old) p → length (work p).log ≡ sends_of (map mark_of (recovered_trace old)) p
  log-sent p below down =
      let whole = (all-taken old.config.members (recovered_trace old) p (work p).received lawful.well_formed (all p below down)).0 in
      ap (λ (x : Progress S N). length x.log) (replays p below down).progress ∙ rw whole (log-length lawful p)

  -- and those are the ones before its first lost receipt
  left-before : (p : ℕ) (kind : Mark → Bool) → IsDown (knowledge old) p → ((e : Mark) → kind e ≡ true → member_of e ≡ p)
      → count_by kind (map mark_of (recovered_trace old)) ≡ count_by kind (before_lost (recovery_table (knowledge old)) (marks old) p)
  left-before p kind down own = rw (marks-filter (λ e. stays_in old e) old.trace) (count-front (λ e. stays_in old e) kind _ (marks old) (λ i e here is.
      rw (own e is) at (keep-at next old sound i e here (rw (own e is) down))))

  -- the events that stay by the members' counts are the cut
  pub stays_by-cut : filter (λ e. stays_by old.down work (mark_of e)) old.trace ≡ recovered_trace old
  stays_by-cut = filter-agree (λ e. stays_by old.down work (mark_of e)) (λ e. stays_in old (mark_of e)) old.trace (λ i e here. agrees (mark_of e)) where
    is-sender : (q : ℕ) (e : Mark) → is_send_of q e ≡ true → member_of e ≡ q
    is-sender q e is = grind (arith, nat_tests)

    is-receiver : (p : ℕ) (e : Mark) → is_receipt_of p e ≡ true → member_of e ≡ p
    is-receiver p e is = grind (arith, nat_tests)

    agrees : (e : Mark) → stays_by old.down work e ≡ stays_in old e
    agrees (Send q k to) = search (arith, down_or_up, log-sent, left-before, is-sender)
    agrees (Receipt p r q k) = search (arith, down_or_up, length-receipts_at, left-before, is-receiver)

module _ {S N : Type 0} (next : Next S N) (old new : GroupRecord S N) (step : IsRecovery next old new) (sound : IsSound next old) where
  pub group_recovery_keeps : IsSound next new
  group_recovery_keeps = record {
    config = rw step.rest.config sound.config;
    members = rw step.rest.config (step.rest.size ∙ sound.members);
    checkpoints = rw step.rest.config (ap length step.rest.checkpoints ∙ sound.checkpoints);
    saved = λ m below. rw (step.rest.config, step.rest.checkpoints, step.rest.outside) (checkpoint-survives sound step.trace m (rw step.rest.config at below));
    down = λ m down. never_both new.down m down (up_if_none step.rest.nobody_down m);
    lawful = rw (step.rest.config, cut-one sound step.trace) (recovered_lawful next old sound);
    room = rw step.rest.config (omega (arith, cut-shorter sound step.trace, sound.room));
    causes = rw step.rest.config (recovery_keeps next old new step sound);
    folds = λ m below up. folds-all sound step.trace new refl step.rest.config step.rest.survivors step.folds m (rw step.rest.config at below);
    blanks = λ m below down. never_both new.down m down (up_if_none step.rest.nobody_down m);
    distinct = λ m. elim (down_or_up old.down m) [
      | inl down ↦ rw (step.gathered m (sound.down m down) down) (once_recovery_table (knowledge old))
      | inr up ↦ rw (step.rest.survivors m up) (sound.distinct m)
    ];
    shape = rw step.rest.config step.rest.shape;
    notes = λ v among. elim (down_or_both_up old.down v.from v.to) [
      | inl down ↦ (step.made_again v.from v.to down).notes v among
      | inr up ↦
          let was = sound.notes v (rw (step.rest.channels v.from v.to up.0 up.1) at among) in
          rw step.trace.1 (note-stays old.config.members step.trace.0 old.trace sound.lawful.well_formed
          (cut-causes sound step.trace) v.from v.ssn v.note (cut-keeps_up sound step.trace v.from up.0) was)
    ];
    counted = omega (arith, step.rest.undone_ever, sound.counted, step.rest.receipts_ever);
  }

module _ (S N : Type 0) where
  pub group_recovery_gains_holders : OfRecovery S N (λ old new. GainsHolders (knowledge old) (knowledge new))
  group_recovery_gains_holders = recovery_gains_holders

  pub recovery_leaves_recorded : OfRecovery S N LeavesRecorded
  recovery_leaves_recorded next old new step sound = record { exactly = cut_is_recorded next old new step sound; order = cut-receipts sound step.trace }

  pub gains_the_down : OfRecovery S N GainsTheDown
  gains_the_down next old new step sound d m recorded = grind (arith, nat_tests, recovery_gains_holders next old new step sound d m)
