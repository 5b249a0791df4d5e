-- A recovery keeps knowledge sound.
use Rattle.fbl_law.proofs.Common.{one_place, List, ◌≡◌, ℕ, ◌↔◌, Bool, true, inl, inr, refl, sym, ap, ◌∙◌, Some, filter, Determinant, Mark, member_of, send_of, receipt_of, Has, Earlier, Precedes}
use Rattle.fbl_law.proofs.Common.{itself, step, WellFormed, sent_on, taken_on, Has-first, Knowledge, Store, in_table, in_message, in_checkpoint, IsThere, table, IsDown, IsUp, Names, Holds, IsRecorded}
use Rattle.fbl_law.proofs.Common.{IsHolder, IsClosed, IsSoundKnowledge, IsStable, NamesCauses, Stays, Send, Receipt, Has-filter, Precedes-filter, nat_tests, arith, Event, GainsHolders, GroupRecord, IsEventCut}
use Rattle.fbl_law.proofs.Common.{IsRecovery, IsSound, MemberRecord, Next, StaysIsRecorded, knowledge, map, mark_of, marks, recovery_table}
use Rattle.fbl_law.proofs.CutLawful.{KeepsCauses, Has-before, WellFormed-kept, map-kept, marks-filter}
use Rattle.fbl_law.proofs.Lists.{filter-passes, filter-At}
use Rattle.fbl_law.proofs.Safe.{entries_gathered, gathered_recorded, recorded_gathered, down_or_up, down_or_both_up, never_both, nobody_down_empty, up_if_none, IsRecorded-depended}
use Rattle.fbl_law.proofs.Safe.{IsRecorded-before, Has-recorded}
use Rattle.fbl_law.proofs.Keeping.{IsStable-kept, KeepsKnowledge, IsSoundAt, sound_kept, sound_passed, checkpoint_kept, sound_after}

-- an event with a send of its own is a receipt
receives : (e b : Mark) → send_of e ≡ Some b → (d : Determinant) × (e ≡ receipt_of d)
receives (Send from ssn to) b h = absurd cc
receives (Receipt to rsn from ssn) b h = (record { from = from; ssn = ssn; to = to; rsn = rsn }, refl)

-- an event stays where each receipt that precedes it is recorded
pub Stays-recorded : {S N : Type 0} → (r : Knowledge S N) (b : Mark) → Has r.trace b → ((c : Determinant) → Precedes r.trace (receipt_of c) b → IsRecorded r c) → Stays r b
Stays-recorded r b there recorded down c same up_to =
    recorded c (elim up_to [ inl is ↦ rw is (itself there) | inr earlier ↦ step (itself (earlier.0, earlier.3)) (earlier, inl same) ])

module _ {S N : Type 0} (n f : ℕ) (old : Knowledge S N) (obeys : WellFormed n old.trace) (closed : IsClosed f old) where
  -- an event of the same member that comes before one that stays stays
  Stays-earlier : (a b : Mark) → Stays old b → Earlier old.trace a b → member_of a ≡ member_of b → Stays old a
  Stays-earlier a b stays earlier same down c at_a up_to = stays (rw (← same) down) c (at_a ∙ same) (elim up_to [
    | inl is ↦ inr (rw is earlier)
    | inr before ↦
        let here = one_place n old.trace obeys a before.1 earlier.0 before.4 earlier.3 in
        inr (before.0, earlier.1, omega (arith, before.2, earlier.2, here), before.3, earlier.4)
  ])

  -- what precedes an event of a member that is up is recorded
  unless_down : (c : Determinant) {b : Mark} → Precedes old.trace (receipt_of c) b → (IsDown old (member_of b) → IsRecorded old c) → IsRecorded old c
  unless_down c {b} path if_down = elim (down_or_up old.down (member_of b)) [ inr up ↦ IsRecorded-depended f old closed c (member_of b) up (b, path, refl) | inl down ↦ if_down down ]

  -- each receipt that precedes an event that stays is recorded
  pub recorded_before : (c : Determinant) {b : Mark} → Stays old b → Precedes old.trace (receipt_of c) b → IsRecorded old c
  recorded_before c stays (itself h) = unless_down c (itself h) (λ down. stays down c refl (inl refl))
  recorded_before c stays (step {b} {c = e} p l) = unless_down c (step p l) (λ down. elim l.1 [
    | inl same ↦ recorded_before c (Stays-earlier b e stays l.0 same) p
    | inr received ↦
        let is = receives e b received in
        IsRecorded-before f old closed c is.0 (stays down is.0 (ap member_of (sym is.1)) (inl (sym is.1))) (rw is.1 at (step p l))
  ])

-- what a cut of a sound group's trace leaves
module _ {S N : Type 0} {next : Next S N} {old : GroupRecord S N} (sound : IsSound next old) {new : List (Event N)} (cut : IsEventCut (Stays (knowledge old)) old.trace new) where
  abbrev keep : Mark → Bool
  keep = cut.0

  pub cut-marks : map mark_of new ≡ filter keep (marks old)
  cut-marks = ap (map mark_of) cut.1 ∙ marks-filter keep old.trace

  pub cut-causes : KeepsCauses keep (marks old)
  cut-causes a b kept leads =
      let there : Has (marks old) a = (leads.0.0, leads.0.3) in
      (cut.2 a there).1 (Stays-recorded (knowledge old) a there (λ c before.
      recorded_before old.config.members old.config.f (knowledge old) sound.causes.rules sound.causes.closed c ((cut.2 b (leads.0.1, leads.0.4)).0 kept) (step before leads)))

  pub cut-was : (e : Mark) → Has (map mark_of new) e → Has (marks old) e × (keep e ≡ true)
  cut-was e there =
      let left : Has (filter keep (marks old)) e = rw cut-marks at there in
      (Has-filter keep (marks old) e left, filter-passes keep (marks old) left.0 e left.1)

  pub cut-left : (e : Mark) → Has (marks old) e → keep e ≡ true → Has (map mark_of new) e
  cut-left e there kept = rw cut-marks (filter-At keep (marks old) there.0 e there.1 kept)

  -- the cut obeys the rules
  pub cut-obeys : WellFormed old.config.members (map mark_of new)
  cut-obeys = rw cut-marks (WellFormed-kept old.config.members keep (marks old) sound.causes.rules cut-causes)

  -- the events of up members stay
  pub cut-keeps_up : (m : ℕ) → IsUp (knowledge old) m → (e : Mark) → Has (marks old) e → member_of e ≡ m → keep e ≡ true
  cut-keeps_up m up e there at_m = (cut.2 e there).1 (λ down. never_both old.down m (rw at_m at down) up)

  -- each receipt of the cut is recorded
  pub cut-recorded : (d : Determinant) → Has (map mark_of new) (receipt_of d) → IsRecorded (knowledge old) d
  cut-recorded d there =
      let was = cut-was (receipt_of d) there in
      recorded_before old.config.members old.config.f (knowledge old) sound.causes.rules sound.causes.closed d ((cut.2 (receipt_of d) was.0).0 was.1) (itself was.0)

  left_if : (b : Mark) → Has (marks old) b → ((c : Determinant) → Precedes (marks old) (receipt_of c) b → IsRecorded (knowledge old) c) → Has (map mark_of new) b
  left_if b there recorded = cut-left b there ((cut.2 b there).1 (Stays-recorded (knowledge old) b there recorded))

  -- so each recorded receipt is in the cut
  pub recorded-cut : (d : Determinant) → IsRecorded (knowledge old) d → Has (map mark_of new) (receipt_of d)
  recorded-cut d recorded =
      left_if (receipt_of d) (Has-recorded (knowledge old) sound.causes.truth d recorded) (λ c. IsRecorded-before old.config.f (knowledge old) sound.causes.closed c d recorded)

pub stays_is_recorded : {S N : Type 0} → StaysIsRecorded S N
stays_is_recorded next r sound e there = search (arith, recorded_before, Stays-recorded)

module _ {S N : Type 0} (next : Next S N) (old new : GroupRecord S N) (recovery : IsRecovery next old new) (sound : IsSound next old) where
  abbrev cut : IsEventCut (Stays (knowledge old)) old.trace new.trace
  cut = recovery.trace

  table_still : (m : ℕ) → IsUp (knowledge old) m → table (knowledge new) m ≡ table (knowledge old) m
  table_still m up = ap (λ (x : MemberRecord S N). x.table) (recovery.rest.survivors m up)

  table_given : (m : ℕ) → IsDown (knowledge old) m → table (knowledge new) m ≡ recovery_table (knowledge old)
  table_given m down = recovery.gathered m (sound.down m down) down

  gathered : (m : ℕ) (d : Determinant) → IsDown (knowledge old) m → IsRecorded (knowledge old) d → Names (table (knowledge new) m) d
  gathered m d down recorded = rw (table_given m down) (recorded_gathered sound.causes d recorded)

  up_now : (m : ℕ) → IsUp (knowledge new) m
  up_now = up_if_none recovery.rest.nobody_down

  -- what precedes an event of the cut is in the cut
  pub cut_is_closed : (a b : Mark) → Precedes (marks old) a b → Has (marks new) b → Has (marks new) a
  cut_is_closed a b before there = rw (cut-marks sound cut) (Has-before cut.0 (marks old) (cut-causes sound cut) before (cut-was sound cut b there).1)

  Holds-recovered : (d : Determinant) (m : ℕ) → IsHolder (knowledge old) d m → Holds (knowledge new) d m
  Holds-recovered d m (inl holds) = (up_now m, rw (table_still m holds.0) holds.1)
  Holds-recovered d m (inr down) = (up_now m, gathered m d down.0 down.1)

  -- the holders of a recorded receipt are those before
  pub recovery_gains_holders : GainsHolders (knowledge old) (knowledge new)
  recovery_gains_holders d m = (
    λ holds. elim (down_or_up old.down m) [
      | inr up ↦ inl (up, rw (table_still m up) at holds.1)
      | inl down ↦ inr (down, gathered_recorded sound.causes d (rw (table_given m down) at holds.1))
    ],
    Holds-recovered d m,
  )

  keeps : KeepsKnowledge old.config.members old.config.f (knowledge old) (knowledge new)
  keeps = record {
    rules = cut-obeys sound cut;
    down = nobody_down_empty old.config.f (knowledge new) recovery.rest.nobody_down;
    -- the events of up members stay, so what is in flight between them stays
    channels = λ q p up_q up_p. elim (down_or_both_up old.down q p) [
      | inl down ↦ (recovery.made_again q p down).sends
      | inr up ↦
          let same_sent = map-kept cut.0 (sent_on q p) (marks old) (λ e y there is. cut-keeps_up sound cut q up.0 e there (grind (arith, nat_tests))) in
          let same_taken = map-kept cut.0 (taken_on q p) (marks old) (λ e y there is. cut-keeps_up sound cut p up.1 e there (grind (arith, nat_tests))) in
          rw (recovery.rest.channels q p up.0 up.1, cut-marks sound cut, same_sent, same_taken) (sound.causes.channels q p up.0 up.1)
    ];
    held = λ d m up. Holds-recovered d m;
    left = left_if sound cut;
    paths = λ there path. Precedes-filter cut.0 (marks old) (rw (cut-marks sound cut) at path);
  }

  pub recovery_keeps_stable : (d : Determinant) → IsStable old.config.f (knowledge old) d → IsStable old.config.f (knowledge new) d
  recovery_keeps_stable = IsStable-kept keeps sound.causes

  -- the table of a member that was down has each receipt of the cut
  has_all : (m : ℕ) (b : Mark) → IsDown (knowledge old) m → NamesCauses old.config.f (knowledge new) (table (knowledge new) m) b
  has_all m b down d before = inl (gathered m d down (cut-recorded sound cut d (Has-first before)))

  good_table : (m : ℕ) → IsSoundAt old.config.f (knowledge new) (in_table m)
  good_table m = elim (down_or_up old.down m) [
    | inr up ↦ sound_kept keeps sound.causes (in_table m) (up_now m) (up, table_still m up, λ b has owes. ((cut-was sound cut b has).0, owes))
    | inl down ↦ record {
      truth = λ e among.
          let g = entries_gathered sound.causes e (rw (table_given m down) at among) in
          ((recorded-cut sound cut e.det g.0, λ q h. inl (Holds-recovered e.det q (g.2 q h))), g.1 m down);
      events = λ b at_m. has_all m b down;
      named = λ c named. has_all m (receipt_of c) down;
    }
  ]

  -- a message in flight was made again, or it stayed in its channel
  good : (k : Store N) → IsThere (knowledge new) k → IsSoundAt old.config.f (knowledge new) k
  good (in_table m) there = good_table m
  good (in_message v) flies = elim (down_or_both_up old.down v.from v.to) [
    | inl down ↦ sound_passed old.config.f (knowledge new) v (good_table v.from) (rw recovery.rest.config at ((recovery.made_again v.from v.to down).carried v flies))
    | inr up ↦ sound_kept keeps sound.causes (in_message v) flies
        (rw (recovery.rest.channels v.from v.to up.0 up.1) at flies, refl, λ b has owes. ((cut-was sound cut b has).0, owes))
  ]
  good (in_checkpoint m) there =
      let same = λ (b : Mark) (has : Has (marks new) b). (cut-was sound cut b has).0 in
      sound_kept keeps sound.causes (in_checkpoint m) tt
      (tt, rw (recovery.rest.checkpoints, recovery.rest.outside) refl, λ b has owes. (same b has, rw (recovery.rest.checkpoints, recovery.rest.outside) at owes))

  pub recovery_keeps : IsSoundKnowledge old.config.members old.config.f (knowledge new)
  recovery_keeps = sound_after keeps sound.causes good (λ m. checkpoint_kept keeps sound.causes m (rw (recovery.rest.checkpoints, recovery.rest.outside) refl))

  pub cut_is_recorded : (d : Determinant) → Has (marks new) (receipt_of d) ↔ (Has (marks old) (receipt_of d) × IsRecorded (knowledge old) d)
  cut_is_recorded d = (λ there. ((cut-was sound cut (receipt_of d) there).0, cut-recorded sound cut d there), λ h. recorded-cut sound cut d h.1)
