-- What every step keeps that leaves up members what they were holders of, and that a strike and a checkpoint keep a group sound.
use Rattle.fbl_law.proofs.Common.{◌≡◌, ℕ, List, inl, inr, arith, subst, refl, Contains, Determinant, Mark, member_of, receipt_of, Has, Precedes, Has-last, some_outside, Entry, piggybacked, Message}
use Rattle.fbl_law.proofs.Common.{Includes, Knowledge, Store, in_table, in_message, in_checkpoint, owner, entries, table, checkpoint, IsThere, Owes, IsUp, Names, Holds, IsRecorded, IsHolder, IsStable}
use Rattle.fbl_law.proofs.Common.{IsTrueEntry, NamesCauses, IsDownEmpty, IsCheckpointKept, IsSoundKnowledge, MatchesTrace, WellFormed, ◌≤◌, ap, ◌∙◌, AllBelow, Members, Next, MemberRecord, blank}
use Rattle.fbl_law.proofs.Common.{GroupRecord, knowledge, IsFold, IsSound, IsStrike, RecordedTest, contains-union, IsOnce-none, false, ◌≢◌, ◌<◌, sym, slice_set, cases_eq, length-set, get_or-set_same}
use Rattle.fbl_law.proofs.Common.{get_or-set_other, itself, member, member_checkpoint, IsReplayed, IsCheckpoint, CheckpointIsRecorded, GroupCheckpointKeeps, nat_tests}
use Rattle.fbl_law.proofs.Safe.{down_or_up, up_at_ends, IsRecorded-before, Contains-piggybacked, passed_or_known, never_both, Decides-recorded, up_if_none, IsRecorded-reached}
use Rattle.std.specs.FinSet as sets
use Rattle.fbl_law.proofs.ReplayedRecords.{fold-replayed}

module _ {S N : Type 0} where
  -- what is true of one store of a sound record
  pub record IsSoundAt (f : ℕ) (r : Knowledge S N) (k : Store N) : Type 0 where
    pub truth : (e : Entry) → Contains (entries r k) e → IsTrueEntry r e × Includes e.known (owner k)
    pub events : (b : Mark) → Owes r k b → NamesCauses f r (entries r k) b
    pub named : (c : Determinant) → Names (entries r k) c → NamesCauses f r (entries r k) (receipt_of c)

  -- what a member passes on of a table that names the causes of an event names them too
  causes_passed : (f : ℕ) (r : Knowledge S N) (m : ℕ) (b : Mark) → IsSoundAt f r (in_table m) → NamesCauses f r (table r m) b → NamesCauses f r (piggybacked f (table r m)) b
  causes_passed f r m b good causes d before =
      elim (causes d before) [
        | inl named ↦ elim (passed_or_known f (table r m) named.0 named.1) [
          | inl passed ↦ inl (named.0, passed, named.2)
          | inr many ↦ inr (subst (λ (c : Determinant). IsStable f r c) named.2 (named.0.known, many, (good.truth named.0 named.1).0.1))
        ]
        | inr stable ↦ inr stable
      ]

  -- so a message that carries what its sender passes on is sound, where the sender's table is
  pub sound_passed : (f : ℕ) (r : Knowledge S N) (v : Message N) → IsSoundAt f r (in_table v.from) → v.carried ≡ piggybacked f (table r v.from) → IsSoundAt f r (in_message v)
  sound_passed f r v good is = record {
    truth = λ e among. good.truth e (Contains-piggybacked f (table r v.from) e (rw is at among));
    events = λ b sent. rw is (causes_passed f r v.from b good (good.events b (subst (λ (x : Mark). member_of x ≡ v.from) sent refl)));
    named = λ c named.
        let passed : Names (piggybacked f (table r v.from)) c = rw is at named in
        rw is (causes_passed f r v.from (receipt_of c) good (good.named c (passed.0, Contains-piggybacked f (table r v.from) passed.0 passed.1, passed.2)));
  }

  -- a step after which the trace obeys the rules, at most f members are down, and the channels match the trace: up members hold
  -- what they were holders of, an event is left where each receipt that precedes it is recorded, and each path to an old event is
  -- an old path
  pub record KeepsKnowledge (n f : ℕ) (old new : Knowledge S N) : Type 0 where
    pub rules : WellFormed n new.trace
    pub down : IsDownEmpty f new
    pub channels : (q p : ℕ) → IsUp new q → IsUp new p → MatchesTrace new q p
    pub held : (d : Determinant) (m : ℕ) → IsUp new m → IsHolder old d m → Holds new d m
    pub left : (b : Mark) → Has old.trace b → ((c : Determinant) → Precedes old.trace (receipt_of c) b → IsRecorded old c) → Has new.trace b
    pub paths : {a b : Mark} → Has old.trace b → Precedes new.trace a b → Precedes old.trace a b

  -- the store has what it had, and owes the causes of no other old event
  abbrev pub IsSameStore : Knowledge S N → Knowledge S N → Store N → Type 0
  IsSameStore old new k = IsThere old k × (entries new k ≡ entries old k) × ((b : Mark) → Has new.trace b → Owes new k b → Has old.trace b × Owes old k b)

module _ {S N : Type 0} {n f : ℕ} {old new : Knowledge S N} (keeps : KeepsKnowledge n f old new) (sound : IsSoundKnowledge n f old) where
  IsHolder-kept : (d : Determinant) (m : ℕ) → IsRecorded new d → IsHolder old d m → IsHolder new d m
  IsHolder-kept d m recorded holder = elim (down_or_up new.down m) [ inl down ↦ inr (down, recorded) | inr up ↦ inl (keeps.held d m up holder) ]

  -- of more than f holders one is up
  pub IsStable-kept : (d : Determinant) → IsStable f old d → IsStable f new d
  IsStable-kept d stable =
      let one = some_outside stable.0 new.down (omega (arith, keeps.down.few, stable.1)) in
      let recorded : IsRecorded new d = inl (one.0, keeps.held d one.0 one.2 (stable.2 one.0 one.1)) in
      (stable.0, stable.1, λ m h. IsHolder-kept d m recorded (stable.2 m h))

  pub NamesCauses-kept : (es : List Entry) (b : Mark) → Has old.trace b → NamesCauses f old es b → NamesCauses f new es b
  NamesCauses-kept es b there causes d before = elim (causes d (keeps.paths there before)) [ inl named ↦ inl named | inr stable ↦ inr (IsStable-kept d stable) ]

  -- what a store names is recorded still, where it has what it had
  still_recorded : (k : Store N) (e : Entry) → IsThere new k → Contains (entries new k) e → IsHolder old e.det (owner k) → IsRecorded new e.det
  still_recorded (in_table m) e up among holder = inl (m, (up, (e, among, refl)))
  still_recorded (in_checkpoint m) e there among holder = inr (m, (e, among, refl))
  still_recorded (in_message v) e flies among holder = inl (v.from, keeps.held e.det v.from (up_at_ends new keeps.down.channels v.from v.to v flies).0 holder)

  pub IsTrueEntry-kept : (e : Entry) (m : ℕ) → IsHolder old e.det m → IsRecorded new e.det → IsTrueEntry old e → IsTrueEntry new e
  IsTrueEntry-kept e m holder now fact = (
    keeps.left (receipt_of e.det) fact.0 (λ c. IsRecorded-before f old sound.closed c e.det (search arith)),
    λ q h. IsHolder-kept e.det q now (fact.1 q h),
  )

  -- a store that stays is sound
  pub sound_kept : (k : Store N) → IsThere new k → IsSameStore old new k → IsSoundAt f new k
  sound_kept k there same = record {
    truth = λ e among.
        let fact = sound.truth k e same.0 (rw same.1 at among) in
        let holder = fact.0.1 (owner k) fact.1 in
        (IsTrueEntry-kept e (owner k) holder (still_recorded k e there among holder) fact.0, fact.1);
    events = λ b owes. rw same.1 (λ d before.
        let one = same.2 b (Has-last before) owes in
        NamesCauses-kept (entries old k) b one.0 (sound.closed.events k b same.0 one.1) d before);
    named = λ c named.
        let was_named : Names (entries old k) c = rw same.1 at named in
        let fact = sound.truth k was_named.0 same.0 was_named.1 in
        rw same.1 (NamesCauses-kept (entries old k) (receipt_of c)
        (subst (λ (x : Determinant). Has old.trace (receipt_of x)) was_named.2 fact.0.0) (sound.closed.named k c same.0 was_named));
  }

  -- a checkpoint that stays is kept
  pub checkpoint_kept : (m : ℕ) → checkpoint new m ≡ checkpoint old m → IsCheckpointKept new m
  checkpoint_kept m same d up named = (keeps.held d m up (holder (rw same at named))).1 where
    holder : Names (checkpoint old m).table d → IsHolder old d m
    holder was_named = elim (down_or_up old.down m) [ inl down ↦ inr (down, inr (m, was_named)) | inr was_up ↦ inl (was_up, sound.checkpoints m d was_up was_named) ]

  -- a record of which each store is sound after the step, and each checkpoint kept, is sound
  pub sound_after : ((k : Store N) → IsThere new k → IsSoundAt f new k) → ((m : ℕ) → IsCheckpointKept new m) → IsSoundKnowledge n f new
  sound_after good kept = assumption (
    λ (k : Store N) (e : Entry) (there : IsThere new k). (good k there).truth e,
    λ (k : Store N) (b : Mark) (there : IsThere new k). (good k there).events b,
    λ (k : Store N) (c : Determinant) (there : IsThere new k). (good k there).named c,
  )

-- who is up after a strike was up before it
pub was_up : (old struck : Members) (m : ℕ) → sets.contains (sets.union old struck) m ≡ false → sets.contains old m ≡ false
was_up old struck m up = elim (down_or_up old m) [ inl down ↦ never_both (sets.union old struck) m ((contains-union old struck m).1 (inl down)) up | inr h ↦ h ]

module _ {S N : Type 0} (next : Next S N) (old new : GroupRecord S N) (struck : Members) (s : IsStrike next old new struck) where
  up : (m : ℕ) → IsUp (knowledge new) m → IsUp (knowledge old) m
  up m now = was_up old.down struck m (rw s.down at now)

  table_still : (m : ℕ) → IsUp (knowledge new) m → table (knowledge new) m ≡ table (knowledge old) m
  table_still m now = ap (λ (x : MemberRecord S N). x.table) (s.survivors m now)

  module _ (few : sets.len new.down ≤ old.config.f) (sound : IsSound next old) where
    keeps : KeepsKnowledge old.config.members old.config.f (knowledge old) (knowledge new)
    keeps = record {
      rules = rw s.trace sound.causes.rules;
      down = record { few = few; tables = λ m down. ap (λ (x : MemberRecord S N). x.table) (s.blanks m down); channels = s.emptied };
      channels = λ q p up_q up_p. rw (s.channels q p up_q up_p, s.trace) (sound.causes.channels q p (up q up_q) (up p up_p));
      held = λ d m now holder. elim holder [ inl holds ↦ (now, rw (table_still m now) holds.1) | inr was ↦ never_both old.down m was.0 (up m now) ];
      left = λ b there recorded. rw s.trace there;
      paths = λ there path. rw s.trace at path;
    }

    pub strike_keeps_stable : (d : Determinant) → IsStable old.config.f (knowledge old) d → IsStable old.config.f (knowledge new) d
    strike_keeps_stable = IsStable-kept keeps sound.causes

    same : (k : Store N) → IsThere (knowledge new) k → IsSameStore (knowledge old) (knowledge new) k
    same k there = search (arith, up, table_still)

    pub strike_keeps : IsSoundKnowledge old.config.members old.config.f (knowledge new)
    strike_keeps =
        sound_after keeps sound.causes (λ k there. sound_kept keeps sound.causes k there (same k there)) (λ m. checkpoint_kept keeps sound.causes m (rw (s.checkpoints, s.outside) refl))

  pub group_strike_keeps : AllBelow struck old.config.members → sets.len new.down ≤ old.config.f → IsSound next old → IsSound next new
  group_strike_keeps within few sound = record {
    config = rw s.config sound.config;
    members = rw s.config (s.size ∙ sound.members);
    checkpoints = rw (s.checkpoints, s.config) sound.checkpoints;
    saved = λ m below. rw (s.config, s.trace, s.checkpoints, s.outside) (sound.saved m (rw s.config at below));
    down = λ q down. rw s.config elim ((contains-union old.down struck q).0 (rw s.down at down)) [ inl was ↦ sound.down q was | inr now ↦ within q now ];
    lawful = rw (s.config, s.trace) sound.lawful;
    room = rw (s.config, s.trace) sound.room;
    causes = rw s.config (strike_keeps few sound);
    folds = grind (arith, nat_tests, up);
    blanks = λ m below down. rw s.config (s.blanks m down);
    distinct = λ m. elim (down_or_up new.down m) [ inl down ↦ rw (s.blanks m down) IsOnce-none | inr now ↦ rw (s.survivors m now) (sound.distinct m) ];
    shape = rw s.config s.shape;
    notes = grind (arith, nat_tests, up_at_ends);
    counted = rw (s.trace, s.undone_ever, s.receipts_ever) sound.counted;
  }

pub recorded_test : {S N : Type 0} → RecordedTest S N
recorded_test next r d sound = Decides-recorded r.config.f (knowledge r) sound.causes.down d

-- the receipts of a member's checkpoint are recorded
pub checkpoint_is_recorded : (S N : Type 0) → CheckpointIsRecorded S N
checkpoint_is_recorded S N next r m sound below = (
  (sound.saved m below).within,
  λ d there to within. IsRecorded-reached r.config.f (knowledge r) sound.causes.closed d (receipt_of d) (rw to within) (itself there),
)

-- a member's checkpoint is its record
module _ {S N : Type 0} (next : Next S N) (old new : GroupRecord S N) (p : ℕ) (s : IsCheckpoint old new p) (sound : IsSound next old) where
  abbrev now : GroupRecord S N
  now = record old { checkpoints = slice_set old.checkpoints p (member old p) }

  all_up : (m : ℕ) → IsUp (knowledge old) m
  all_up = up_if_none s.nobody_down

  own : member_checkpoint now p ≡ member old p
  own = get_or-set_same old.checkpoints p (member old p) (blank old.outside) (omega (arith, s.below, sound.checkpoints))

  other : (m : ℕ) → m ≢ p → member_checkpoint now m ≡ member_checkpoint old m
  other m apart = get_or-set_other old.checkpoints p m (member old p) (blank old.outside) apart

  keeps_knowledge : KeepsKnowledge old.config.members old.config.f (knowledge old) (knowledge now)
  keeps_knowledge = grind arith

  good_table : (m : ℕ) → IsSoundAt old.config.f (knowledge now) (in_table m)
  good_table m = sound_kept keeps_knowledge sound.causes (in_table m) (all_up m) (all_up m, refl, λ b there owes. (there, owes))

  -- the new checkpoint has its member's table
  good_own : IsSoundAt old.config.f (knowledge now) (in_checkpoint p)
  good_own =
      let good = good_table p in
      let is : (member_checkpoint now p).table ≡ (member old p).table = ap (λ (x : MemberRecord S N). x.table) own in
      record { truth = λ e among. good.truth e (rw is at among); events = λ b owes. rw is (good.events b owes.0); named = λ c named. rw is (good.named c (rw is at named)) }

  good : (k : Store N) → IsThere (knowledge now) k → IsSoundAt old.config.f (knowledge now) k
  good (in_table m) there = good_table m
  good (in_message v) flies = sound_kept keeps_knowledge sound.causes (in_message v) flies (flies, refl, λ b there owes. (there, owes))
  good (in_checkpoint m) there = elim (cases_eq m p) [
    | inl same ↦ rw same good_own
    | inr apart ↦
        let is = other m apart in
        sound_kept keeps_knowledge sound.causes (in_checkpoint m) tt (tt, ap (λ (x : MemberRecord S N). x.table) is, λ b there owes. (there, (owes.0, rw is at owes.1)))
  ]

  kept : (m : ℕ) → IsCheckpointKept (knowledge now) m
  kept m = elim (cases_eq m p) [ inl same ↦ rw same (λ d up_p named. rw own at named) | inr apart ↦ checkpoint_kept keeps_knowledge sound.causes m (other m apart) ]

  saved_now : (m : ℕ) → m < old.config.members → IsReplayed next old.config.members old.config.starts old.trace m (member_checkpoint now m)
  saved_now m below = grind (arith, cases_eq, same, own, fold-replayed, all_up, other)

  still : (m : ℕ) → m < old.config.members → IsUp (knowledge old) m → IsFold next now m
  still m below up_m = assumption (sound.folds m below up_m)

  IsSound-checkpoint : IsSound next now
  IsSound-checkpoint = search (arith, length-set, sound_after, keeps_knowledge, good, kept, still, saved_now)

pub checkpoint_keeps_stable : {S N : Type 0} → (next : Next S N) (old new : GroupRecord S N) (p : ℕ) → IsCheckpoint old new p → IsSound next old
    → (d : Determinant) → IsStable old.config.f (knowledge old) d → IsStable new.config.f (knowledge new) d
checkpoint_keeps_stable next old new p s sound d stable =
    subst (λ (r : GroupRecord _ _). IsStable r.config.f (knowledge r) d) (sym s.saved) (IsStable-kept (keeps_knowledge next old new p s sound) sound.causes d stable)

pub group_checkpoint_keeps : (S N : Type 0) → GroupCheckpointKeeps S N
group_checkpoint_keeps S N next old new p s sound = subst (IsSound next) (sym s.saved) (IsSound-checkpoint next old new p s sound)
