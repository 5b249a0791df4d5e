-- What tables name, also after they have learned or are gathered, and what a closed record promises.
use Rattle.fbl_law.proofs.Common.{List, ◌≡◌, ℕ, false, [], inl, inr, ◌⊎◌, arith, subst, refl, nat_cmp, Contains, cases_Bool, Members, Determinant, Mark, Has, Precedes, Depends, member_of, receipt_of}
use Rattle.fbl_law.proofs.Common.{some_member, IsTrueEntry, in_table, in_checkpoint, IsHolder, Includes, Knowledge, table, checkpoint, IsUp, IsDown, Names, IsRecorded, IsStable, KnowsTruth}
use Rattle.fbl_law.proofs.Common.{IsBeforeCheckpoint, IsClosed, IsDownEmpty, Message, Entry, IsOrphan, RecordsCauses, ◌<◌, ◌||◌, length, get_or, true, ◌∷◌, map, sym, ◌∙◌, nat_le}
use Rattle.fbl_law.proofs.Common.{cases_eq, get_or_past, Any-from_list_any, same_determinant, contains-insert_other, Decides-same_determinant, MemberRecord, blank, is_held, gathered, learned}
use Rattle.fbl_law.proofs.Common.{piggybacked, ◌↔◌, All, All-head, All-tail, leb_tells, list_any-append, list_any-from_Any, All-cons, All-contains_itself, All-map, All-weaker, held-carried}
use Rattle.fbl_law.proofs.Common.{held-gathered, held_by, noted, Decides, Decides-like, Decides-or, ◌≤◌, and_parts, cases_lt, members_where, contains-members_where, contains-union, list_any}
use Rattle.fbl_law.proofs.Common.{list_any_at, get_or_default, is_recorded_among, false≢true, nat_tests, len-within, IsAlwaysHeld, ◌≢◌, ◌++◌, map-append, map-map, all_pairs_push, IsOnce}
use Rattle.fbl_law.proofs.Common.{AllPairs-from_IsDistinct, IsDistinct-from_AllPairs, gathered_all, recovery_table, saved_tables, added_new, not_held_learned, IsOnce-none, zero, suc, fold_along}
use Rattle.fbl_law.proofs.Common.{Contains-append_left, Contains-append_right, All-append, All-contains, All-from_get_or, All-nil, Contains-get_or, IsSoundKnowledge}
use Rattle.std.specs.FinSet as set
use Rattle.fbl_law.proofs.Lists.{Contains-none, Contains-filter, Contains-from_filter, Contains-changed, Contains-map, Contains-here}
use Rattle.fbl_table.specs.Tables.{added}

-- a set has a member or has not
pub down_or_up : (s : Members) (m : ℕ) → Includes s m ⊎ (set.contains s m ≡ false)
down_or_up s m = cases_Bool (set.contains s m)

-- of two members one is down, or both are up
pub down_or_both_up : (s : Members) (q p : ℕ) → (Includes s q ⊎ Includes s p) ⊎ ((set.contains s q ≡ false) × (set.contains s p ≡ false))
down_or_both_up s q p = grind (arith, down_or_up s q, down_or_up s p)

pub never_both : {A : Type 0} (s : Members) (m : ℕ) → Includes s m → set.contains s m ≡ false → A
never_both s m is is_not = absurd cc

-- where nobody is down, each member is up
pub up_if_none : {s : Members} → s ≡ set.empty → (m : ℕ) → set.contains s m ≡ false
up_if_none none m = rw none (set.contains-empty nat_cmp m)

module _ {S N : Type 0} where
  -- where members that are down have nothing, what is in a channel has its ends up
  pub up_at_ends : (r : Knowledge S N) → ((q p : ℕ) → IsDown r q ⊎ IsDown r p → r.channel q p ≡ []) → (q p : ℕ) (v : Message N) → Contains (r.channel q p) v → IsUp r q × IsUp r p
  up_at_ends r empty q p v among = elim (down_or_both_up r.down q p) [ inl down ↦ absurd (Contains-none v (rw (empty q p down) at among)) | inr up ↦ up ]

  -- and a member whose table names something is up
  pub up_if_named : (f : ℕ) (r : Knowledge S N) → IsDownEmpty f r → (m : ℕ) (d : Determinant) → Names (table r m) d → IsUp r m
  up_if_named f r empty m d named = elim (down_or_up r.down m) [ inl down ↦ absurd (Contains-none named.0 (rw (empty.tables m down) at named.1)) | inr up ↦ up ]

  -- what is named or stable is recorded, where what is named is
  recorded_or : (f : ℕ) (r : Knowledge S N) (d : Determinant) {N : Type 0} → (N → IsRecorded r d) → N ⊎ IsStable f r d → IsRecorded r d
  recorded_or f r d recorded cause = search (arith, some_member)

  -- what true entries name is in the trace
  pub Has-named : (r : Knowledge S N) (entries : List Entry) → ((e : Entry) → Contains entries e → IsTrueEntry r e) → (d : Determinant) → Names entries d → Has r.trace (receipt_of d)
  Has-named r entries known d named = subst (λ (c : Determinant). Has r.trace (receipt_of c)) named.2 (known named.0 named.1).0

  -- a recorded determinant is that of a receipt
  pub Has-recorded : (r : Knowledge S N) → KnowsTruth r → (d : Determinant) → IsRecorded r d → Has r.trace (receipt_of d)
  Has-recorded r known d (inl held) = Has-named r (table r held.0) (λ e h. (known (in_table held.0) e held.1.0 h).0) d held.1.1
  Has-recorded r known d (inr saved) = Has-named r (checkpoint r saved.0).table (λ e h. (known (in_checkpoint saved.0) e tt h).0) d saved.1

  -- what an up member depends on is recorded
  pub IsRecorded-depended : (f : ℕ) (r : Knowledge S N) → IsClosed f r → (d : Determinant) (m : ℕ) → IsUp r m → Depends r.trace m (receipt_of d) → IsRecorded r d
  IsRecorded-depended f r closed d m up depends = recorded_or f r d (λ named. inl (m, (up, named))) (closed.events (in_table m) depends.0 up depends.2 d depends.1)

  -- what precedes a recorded receipt is recorded
  pub IsRecorded-before : (f : ℕ) (r : Knowledge S N) → IsClosed f r → RecordsCauses r
  IsRecorded-before f r closed c d (inl held) before =
      recorded_or f r c (λ named. inl (held.0, (held.1.0, named))) (closed.named (in_table held.0) d held.1.0 held.1.1 c before)
  IsRecorded-before f r closed c d (inr saved) before = recorded_or f r c (λ named. inr (saved.0, named)) (closed.named (in_checkpoint saved.0) d tt saved.1 c before)

  -- what precedes an event from before its member's checkpoint is recorded
  pub IsRecorded-reached : (f : ℕ) (r : Knowledge S N) → IsClosed f r → (d : Determinant) (b : Mark) → IsBeforeCheckpoint r b → Precedes r.trace (receipt_of d) b → IsRecorded r d
  IsRecorded-reached f r closed d b reached before =
      recorded_or f r d (λ named. inr (member_of b, named)) (closed.events (in_checkpoint (member_of b)) b tt (refl, reached) d before)

  -- in a closed record no up member is an orphan
  pub no_orphan : (f : ℕ) (r : Knowledge S N) → IsClosed f r → (m : ℕ) → ¬ (IsOrphan r m)
  no_orphan f r closed m orphan = orphan.1.2 (IsRecorded-depended f r closed orphan.1.0 m orphan.0 orphan.1.1)

  -- where nobody is down, nothing is asked of those down
  pub nobody_down_empty : (f : ℕ) (r : Knowledge S N) → r.down ≡ set.empty → IsDownEmpty f r
  nobody_down_empty f r none = search (arith, never_both, up_if_none, set.len-empty nat_cmp)

pub Includes-insert_cases : (s : Members) (p m : ℕ) → Includes (set.insert s p) m → (m ≡ p) ⊎ Includes s m
Includes-insert_cases s p m h = elim (cases_eq m p) [ inl same ↦ inl same | inr other ↦ inr (sym (contains-insert_other s p m other) ∙ h) ]

-- two entries of one determinant as one
abbrev pub joined : Entry → Entry → Entry
joined x e = record { det = x.det; known = set.union x.known e.known }

-- what holds of each element holds of the list
pub All-from : {X : Type 0} (P : X → Type 0) (xs : List X) → ((x : X) → Contains xs x → P x) → All P xs
All-from P xs each = All-weaker (Contains xs) P each xs (All-contains_itself xs)

-- a record whose table names something is one of the list
pub named_record : {S N : Type 0} → (outside : S) (xs : List (MemberRecord S N)) (m : ℕ) (d : Determinant) → Names (get_or xs m (blank outside)).table d → m < length xs
named_record outside xs m d named = omega (arith, λ (past : length xs ≤ m). (let none : Names [] d = rw (get_or_past xs m (blank outside) past) at named in Contains-none none.0 none.1))

-- a table that has a determinant names it
pub Names-held : (entries : List Entry) (d : Determinant) → is_held entries d ≡ true → Names entries d
Names-held entries d h =
    let some = Any-from_list_any (λ (e : Entry). same_determinant d e.det) entries h in
    (some.1, (some.0, some.2, some.3), sym ((Decides-same_determinant d some.1.det).0 some.4))

pub held-Names : (entries : List Entry) (d : Determinant) → Names entries d → is_held entries d ≡ true
held-Names entries d named =
    list_any-from_Any (λ (e : Entry). same_determinant d e.det) entries
    (named.1.0, named.0, named.1.1, named.1.2, (Decides-same_determinant d named.0.det).1 (sym named.2))

-- what holds of each entry of the tables, and of two that are joined, holds of each that is gathered
module _ (Q : Entry → Type 0) (join : (x e : Entry) → Q x → Q e → x.det ≡ e.det → Q (joined x e)) where
  added-keeps : (xs : List Entry) (e : Entry) → All Q xs → Q e → All Q (added xs e)
  unfolding added
  added-keeps [] e all one = All-cons Q e [] one all
  added-keeps (x ∷ xs) e all one =
      let first = All-head Q x xs all in
      let rest = All-tail Q x xs all in
      elim (cases_Bool (same_determinant e.det x.det)) [
        | inl is ↦ rw is (All-cons Q (joined x e) xs (join x e first one (sym ((Decides-same_determinant e.det x.det).0 is))) rest)
        | inr other ↦ rw other (All-cons Q x (added xs e) first (added-keeps xs e rest one))
      ]

  pub gathered-keeps : (xs es : List Entry) → All Q xs → All Q es → All Q (gathered xs es)
  gathered-keeps xs [] all each = all
  gathered-keeps xs (e ∷ es) all each = gathered-keeps (added xs e) es (added-keeps xs e all (All-head Q e es each)) (All-tail Q e es each)

  gathered_all-keeps : (xs : List Entry) (ts : List (List Entry)) → All Q xs → All (λ t. All Q t) ts → All Q (gathered_all xs ts)
  gathered_all-keeps xs [] all each = all
  gathered_all-keeps xs (t ∷ ts) all each =
      gathered_all-keeps (gathered xs t) ts (gathered-keeps xs t all (All-head (λ t. All Q t) t ts each)) (All-tail (λ t. All Q t) t ts each)

  pub learned-keeps : (p : ℕ) (xs es : List Entry) → All Q xs → All (λ e. Q (held_by p e)) es → All Q (learned p xs es)
  learned-keeps p xs es all each = gathered-keeps xs (map (held_by p) es) all (All-map Q (held_by p) es each)

pub Contains-piggybacked : (f : ℕ) (xs : List Entry) (e : Entry) → Contains (piggybacked f xs) e → Contains xs e
Contains-piggybacked f xs e among = Contains-from_filter (λ e. nat_le (set.len e.known) f) xs e among

-- an entry is passed on, or more than f members are known to hold it
pub passed_or_known : (f : ℕ) (xs : List Entry) (e : Entry) → Contains xs e → Contains (piggybacked f xs) e ⊎ (f < set.len e.known)
passed_or_known f xs e among = search (arith, leb_tells, Contains-filter)

-- after a receipt a table names what it named, what it learned, and the receipt's own determinant
pub Names-table : (p : ℕ) (xs es : List Entry) (own d : Determinant) → Names (noted p (learned p xs es) own) d ↔ (Names xs d ⊎ (Names es d ⊎ (own ≡ d)))
Names-table p xs es own d =
    (λ named. told.0 (sym tells ∙ held-Names (noted p (learned p xs es) own) d named), λ h. Names-held (noted p (learned p xs es) own) d (tells ∙ told.1 h))
  where
    told : Decides (is_held xs d || (is_held es d || same_determinant d own)) (Names xs d ⊎ (Names es d ⊎ (own ≡ d)))
    told = Decides-or _ _ (Names-held xs d, held-Names xs d) (Decides-or _ _ (Names-held es d, held-Names es d) (Decides-like _ sym sym (Decides-same_determinant d own)))

    tells : is_held (noted p (learned p xs es) own) d ≡ (is_held xs d || (is_held es d || same_determinant d own))
    tells = rw (list_any-append, held-gathered xs (map (held_by p) es) d, held-carried p es d) grind arith

module _ {S N : Type 0} where
  -- some record's table has the determinant exactly where it names it
  Decides-named : (outside : S) (xs : List (MemberRecord S N)) (d : Determinant) → Decides (list_any (λ m. is_held m.table d) xs) ((k : ℕ) × Names (get_or xs k (blank outside)).table d)
  Decides-named outside xs d = (
    λ held.
        let some = Any-from_list_any (λ (m : MemberRecord S N). is_held m.table d) xs held in
        (some.0, Names-held (get_or xs some.0 (blank outside)).table d (rw (← get_or_default xs some.0 some.1 (blank outside) some.2, some.3) some.4)),
    λ named. list_any_at (λ (m : MemberRecord S N). is_held m.table d) xs named.0 (blank outside) (named_record outside xs named.0 d named.1) (held-Names (get_or xs named.0 (blank outside)).table d named.1),
  )

  pub Decides-recorded : (f : ℕ) (r : Knowledge S N) → IsDownEmpty f r → (d : Determinant) → Decides (is_recorded_among r.members r.checkpoints d) (IsRecorded r d)
  Decides-recorded f r empty d = Decides-or _ _
      (Decides-like _ (λ one. (one.0, (up_if_named f r empty one.0 d one.1, one.1))) (λ held. (held.0, held.1.1)) (Decides-named r.outside r.members d))
      (Decides-named r.outside r.checkpoints d)

module _ {S N : Type 0} (r : Knowledge S N) (d : Determinant) where
  -- those whose tables have it, and those that are down
  abbrev all : Members
  all = set.union (members_where (length r.members) (λ m. is_held (table r m) d)) r.down

  Includes-all : (m : ℕ) → Includes all m ↔ Names (table r m) d ⊎ IsDown r m
  Includes-all m =
      let either = contains-union (members_where (length r.members) (λ m. is_held (table r m) d)) r.down m in
      let has = contains-members_where (length r.members) (λ m. is_held (table r m) d) m in (
        λ h. elim (either.0 h) [ inl named ↦ inl (Names-held (table r m) d (and_parts _ _ (sym has ∙ named)).1) | inr down ↦ inr down ],
        elim [
          | inl named ↦ either.1 (inl (has ∙ rw (held-Names (table r m) d named) grind (arith, nat_tests, named_record r.outside r.members m d named)))
          | inr down ↦ either.1 (inr down)
        ],
      )

-- each receipt of a closed record is stable, or held by each up member that depends on it
pub IsAlwaysHeld-closed : {S N : Type 0} → (f : ℕ) (r : Knowledge S N) → IsDownEmpty f r → IsClosed f r → IsAlwaysHeld f r
IsAlwaysHeld-closed f r empty closed d there = elim (cases_Bool (is_recorded_among r.members r.checkpoints d)) [
  | inr lost ↦ inr (λ m up depends. absurd (false≢true (sym lost ∙ (Decides-recorded f r empty d).1 (IsRecorded-depended f r closed d m up depends))))
  | inl is ↦ elim (cases_lt f (set.len (all r d))) [
    | inl many ↦ let recorded = (Decides-recorded f r empty d).0 is in inl (all r d, many, λ m h. search (arith, down_or_up, Includes-all r d m))
    | inr few ↦ inr (λ m up depends. grind (arith, nat_tests, closed.events (in_table m) depends.0 up depends.2 d depends.1, len-within, Includes-all))
  ]
]

-- an entry more of a determinant that the table has not
once_push : (table : List Entry) (e : Entry) → IsOnce table → is_held table e.det ≡ false → IsOnce (table ++ e ∷ [])
once_push table e once new =
    let dets : List Determinant = map (λ (x : Entry). x.det) table in
    rw (map-append (λ (x : Entry). x.det) table (e ∷ []))
    (IsDistinct-from_AllPairs Decides-same_determinant (dets ++ e.det ∷ []) (all_pairs_push (λ x y. x ≢ y) dets e.det (AllPairs-from_IsDistinct Decides-same_determinant dets once)
    (λ k d below same. (let held = held-Names table e.det (Contains-changed (λ (x : Entry). x.det) table e.det (k, below, get_or_default dets k e.det d below ∙ same)) in absurd cc))))

-- an entry of a determinant that the table has changes none
dets_added : (table : List Entry) (e : Entry) → is_held table e.det ≡ true → map (λ (x : Entry). x.det) (added table e) ≡ map (λ (x : Entry). x.det) table
unfolding added
dets_added [] e held = absurd cc
dets_added (x ∷ table) e held = (let rest = dets_added table e in grind (arith, rest))

once_gathered : (table other : List Entry) → IsOnce table → IsOnce (gathered table other)
once_gathered table other once =
    fold_along added (λ (u : ℕ) e. u) (λ xs u. IsOnce xs) (λ xs u e once. grind (arith, nat_tests, cases_Bool (is_held xs e.det), dets_added, added_new, once_push)) table 0 other once

-- what a member has learned and its own new determinant
pub once_noted : (p : ℕ) (table carried : List Entry) (own : Determinant) → IsOnce table → is_held table own ≡ false → is_held carried own ≡ false
    → IsOnce (noted p (learned p table carried) own)
once_noted p table carried own once new others = search (arith, once_push, once_gathered, not_held_learned)

once_gathered_all : (table : List Entry) (ts : List (List Entry)) → IsOnce table → IsOnce (gathered_all table ts)
once_gathered_all table ts once = fold_along gathered (λ (u : ℕ) t. u) (λ xs u. IsOnce xs) (λ xs u t. once_gathered xs t) table 0 ts once

abbrev mark : Members → Entry → Entry
mark s e = record { det = e.det; known = set.union e.known s }

-- what one of the tables names, the gathered one names
held-gathered_all : (xs : List Entry) (ts : List (List Entry)) (d : Determinant) → is_held (gathered_all xs ts) d ≡ (is_held xs d || list_any (λ t. is_held t d) ts)
held-gathered_all xs [] d = grind arith
held-gathered_all xs (t ∷ ts) d = rw (held-gathered_all (gathered xs t) ts d, held-gathered xs t d) grind arith

module _ {S N : Type 0} where
  -- what recovery gathers has no determinant twice
  pub once_recovery_table : (r : Knowledge S N) → IsOnce (recovery_table r)
  once_recovery_table r = search (arith, map-map, once_gathered_all, IsOnce-none)

  -- the tables of checkpoints are those of the members of the set
  Contains-saved : (outside : S) (s : Members) (checkpoints : List (MemberRecord S N)) (n m : ℕ) → m < n → Includes s m → Contains (saved_tables outside s checkpoints n) (get_or checkpoints m (blank outside)).table
  Contains-saved outside s checkpoints zero m below among = absurd (omega arith)
  Contains-saved outside s checkpoints (suc n) m below among =
      elim (cases_eq m n) [
        | inl same ↦ grind (arith, nat_tests, Contains-append_right, Contains-here)
        | inr other ↦ Contains-append_left (saved_tables outside s checkpoints n) _ (get_or checkpoints m (blank outside)).table (Contains-saved outside s checkpoints n m (omega arith) among)
      ]

  saved-keeps : (outside : S) (P : List Entry → Type 0) (s : Members) (checkpoints : List (MemberRecord S N)) (n : ℕ) → ((m : ℕ) → P (get_or checkpoints m (blank outside)).table)
      → All P (saved_tables outside s checkpoints n)
  saved-keeps outside P s checkpoints zero each = All-nil P
  saved-keeps outside P s checkpoints (suc n) each =
      All-append P (saved_tables outside s checkpoints n) _ (saved-keeps outside P s checkpoints n each) (search (arith, All-cons, All-nil, down_or_up))

  -- the entry unites what stores know of a recorded determinant, and names those that are down
  abbrev pub IsGathered : Knowledge S N → Entry → Type 0
  IsGathered r e = IsRecorded r e.det × ((m : ℕ) → IsDown r m → Includes e.known m) × ((m : ℕ) → Includes e.known m → IsHolder r e.det m)

module _ {S N : Type 0} {n f : ℕ} {r : Knowledge S N} (sound : IsSoundKnowledge n f r) where
  -- the tables that are gathered
  abbrev sources : List (List Entry)
  sources = map (λ (m : MemberRecord S N). m.table) r.members ++ saved_tables r.outside r.down r.checkpoints (length r.checkpoints)

  -- the determinant is recorded, and the entry names holders of it
  abbrev IsKnown : Entry → Type 0
  IsKnown e = IsRecorded r e.det × ((m : ℕ) → Includes e.known m → IsHolder r e.det m)

  table_known : (m : ℕ) (e : Entry) → Contains (table r m) e → IsKnown e
  table_known m e here =
      search (arith, up_if_named f r sound.down m e.det (e, here, refl), sound.truth (in_table m) e (up_if_named f r sound.down m e.det (e, here, refl)) here)

  all_known : All IsKnown (gathered_all [] sources)
  all_known = gathered_all-keeps IsKnown
      (λ x e a b same. (a.0, λ m h. elim ((contains-union x.known e.known m).0 h) [ inl left ↦ a.1 m left | inr right ↦ rw same (b.1 m right) ])) [] sources (All-nil IsKnown) (All-append AllKnown _ _
      (All-map AllKnown (λ (m : MemberRecord S N). m.table) r.members
      (All-from_get_or (λ (x : MemberRecord S N). AllKnown x.table) r.members (blank r.outside) (λ m below. All-from IsKnown (table r m) (table_known m))))
      (saved-keeps r.outside AllKnown r.down r.checkpoints (length r.checkpoints) (λ m. All-from IsKnown (checkpoint r m).table (λ e here. (inr (m, (e, here, refl)), (sound.truth (in_checkpoint m) e tt here).0.1)))))
    where
      AllKnown : List Entry → Type 0
      AllKnown t = All IsKnown t

  pub entries_gathered : (e : Entry) → Contains (recovery_table r) e → IsGathered r e
  entries_gathered e among =
      let was = Contains-changed (mark r.down) (gathered_all [] sources) e among in
      let known = All-contains IsKnown (gathered_all [] sources) was.0 all_known was.1 in
      subst (IsGathered r) was.2 (
        known.0,
        (λ m down. (contains-union was.0.known r.down m).1 (inr down)),
        λ m h. elim ((contains-union was.0.known r.down m).0 h) [ inl told ↦ known.1 m told | inr down ↦ inr (down, known.0) ],
      )

  pub gathered_recorded : (d : Determinant) → Names (recovery_table r) d → IsRecorded r d
  gathered_recorded d named = subst (λ (c : Determinant). IsRecorded r c) named.2 (entries_gathered named.0 named.1).0

  source_gathered : (t : List Entry) (d : Determinant) → Contains sources t → Names t d → Names (recovery_table r) d
  source_gathered t d among named =
      let held = list_any_at (λ u. is_held u d) sources among.0 t among.1 (rw among.2 (held-Names t d named)) in
      let there = Names-held (gathered_all [] sources) d (rw held-gathered_all held) in
      (mark r.down there.0, Contains-map (mark r.down) (gathered_all [] sources) there.0 there.1, there.2)

  table_gathered : (m : ℕ) (d : Determinant) → Names (table r m) d → Names (recovery_table r) d
  table_gathered m d named = source_gathered (table r m) d
      (Contains-append_left _ _ (table r m) (Contains-map (λ (x : MemberRecord S N). x.table) r.members (get_or r.members m (blank r.outside))
      (Contains-get_or r.members m (blank r.outside) (named_record r.outside r.members m d named)))) named

  -- what an up member's checkpoint names, the member's table names
  pub recorded_gathered : (d : Determinant) → IsRecorded r d → Names (recovery_table r) d
  recorded_gathered d (inl held) = table_gathered held.0 d held.1.1
  recorded_gathered d (inr saved) =
      elim (down_or_up r.down saved.0) [
        | inr up ↦ table_gathered saved.0 d (sound.checkpoints saved.0 d up saved.1)
        | inl down ↦ search (arith, source_gathered, Contains-append_right, Contains-saved, named_record)
      ]
