-- Vector clocks: what precedes an entry, by the clocks of what leads to it at once.
use Rattle.fbl_runs.proofs.Common.{ℕ, zero, suc, cond, ◌≡◌, ◌≢◌, ◌==◌, ◌<◌, ◌≤◌, ◌+◌, ◌⊎◌, ◌↔◌, inl, inr, List, max, Option, Some, None, slice_get, refl, sym, ap, subst, ◌∙◌, arith}
use Rattle.fbl_runs.proofs.Common.{nat_tests, cases_eq, slice_get_within, Determinant, Mark, Send, Receipt, Told, mark_in, receipt_in, send_of}
use Rattle.std.specs.Prelude.{option_and_then}
use Rattle.fbl_trace.specs.Events.{determinant_of}
use Rattle.fbl_runs.proofs.Common.{Event, Hold, LaterReceipt, Restart, Store, Tell, ControlMessage, receipt_of, [], ◌∷◌}
use Rattle.fbl_runs.specs.declared.entry.Restart as restart
use Rattle.fbl_runs.proofs.Common.{Begins, Carries, Causality, Cut, Dependence, Entry, HappenedBefore, IsAt, IsEarlier, Leads, Logs, Position, Precedes, StandsBehind, StoodBefore, Tells, at, itself, log_of, step}
use Rattle.fbl_runs.specs.declared.links.Link.{Link}
use Rattle.fbl_runs.specs.Clocks.{StandsAt, seen}
use Rattle.fbl_runs.specs.Links.{AreLinks, AreOfOneLife, IsLastPlace, IsLink, IsMessageOf, IsPlaceOf}
use Rattle.fbl_runs.specs.Precedence.{AreBelow, HasColumn, IsAmong, IsBelow, IsClock, IsJoined, IsPast, IsPredecessorClock, message_taken, reached_cut, predecessors_of}
use Rattle.fbl_runs.specs.Rules.{AreLawful}
use Rattle.fbl_runs.proofs.ControlLaws.{told_before}
use Rattle.fbl_runs.proofs.LeadsLaws.{are_told, begins_before, begins_one, carried, carries_one, earlier_before, here_stands, leads_before, one_place_of, one_position, same_position, stands_somewhere, tells_one, there_at}
use Rattle.fbl_runs.proofs.Listing.{some_entry, stands_at}

pub Precedes-joined : {c : Causality} {logs : Logs} {i j k : Position} → Precedes c logs i j → Precedes c logs j k → Precedes c logs i k
Precedes-joined p (itself h) = p
Precedes-joined p (step q s) = step (Precedes-joined p q) s

-- both ends of a step are there
pub leads_there : (c : Causality) (logs : Logs) (i j : Position) → Leads c logs i j → ((a : Entry) × IsAt logs i a) × ((b : Entry) × IsAt logs j b)
leads_there HappenedBefore logs i j (inl own) = ((own.0, own.2), (own.1, own.3))
leads_there HappenedBefore logs i j (inr (inl carries)) = ((_, carries.3), (carries.2, carries.4))
leads_there HappenedBefore logs i j (inr (inr (inl tells))) = ((_, tells.1), (_, tells.2))
leads_there HappenedBefore logs i j (inr (inr (inr begins))) = ((_, begins.2), (_, begins.3))
leads_there Dependence logs i j (inl (own, stood)) = ((own.0, own.2), (own.1, own.3))
leads_there Dependence logs i j (inr carries) = ((_, carries.3), (carries.2, carries.4))

-- both ends of a path are there
pub first_there : {c : Causality} {logs : Logs} {i j : Position} → Precedes c logs i j → (e : Entry) × IsAt logs i e
first_there (itself {a} h) = (a, h)
first_there (step p s) = first_there p

pub last_there : {c : Causality} {logs : Logs} {i j : Position} → Precedes c logs i j → (e : Entry) × IsAt logs j e
last_there (itself {a} h) = (a, h)
last_there {c} {logs} (step {j} {k} p s) = (leads_there c logs j k s).1

-- an earlier entry of the same member happened before
pub own_precedes : (logs : Logs) (m k l : ℕ) (a b : Entry) → IsAt logs (at m k) a → IsAt logs (at m l) b → k ≤ l → Precedes HappenedBefore logs (at m k) (at m l)
own_precedes logs m k l a b at_k at_l before = elim (cases_eq k l) [
  | inl same ↦ (rw (← same) (itself at_k))
  | inr ne ↦ step (itself at_k) (inl (a, b, at_k, at_l, refl, omega (arith, before, ne)))
]

-- an entry that another stands behind is there
pub there_before : (logs : Logs) (m k l : ℕ) (b : Entry) → IsAt logs (at m l) b → k ≤ l → (a : Entry) × IsAt logs (at m k) a
there_before logs m k l b at_l before = (let within = slice_get_within (logs m) l b at_l in some_entry (logs m) k (omega (arith, within, before)))

-- the last step of a path
pub last_step : {c : Causality} {logs : Logs} {i j : Position} → Precedes c logs i j → (i ≡ j) ⊎ ((k : Position) × Precedes c logs i k × Leads c logs k j)
last_step (itself h) = inl refl
last_step (step {j} p s) = inr (j, p, s)

-- ---- the clock of an entry

-- the cut has what precedes one of these positions
abbrev pub IsBrought : Causality → List Entry → List Link → (Position → Type 0) → Cut → Type 0
IsBrought c entries links S cut =
    (i : Position) (number : ℕ) → HasColumn c entries links i number → (i.number < cut number) ↔ (k : Position) × S k × Precedes c (log_of entries) i k

pub brought_none : (c : Causality) (entries : List Entry) (links : List Link) (S : Position → Type 0) (cut : Cut) → ((k : Position) → ¬ (S k)) → ((q : ℕ) → cut q ≡ 0) → IsBrought c entries links S cut
brought_none c entries links S cut none nothing i number has = (λ come. absurd (let z = nothing number in omega (arith, come, z)), λ w. absurd (none w.0 w.1))

-- where all of them precede one of them, that has its clock
pub brought_one : (c : Causality) (entries : List Entry) (links : List Link) (S : Position → Type 0) (cut : Cut) (k : Position) → S k
    → ((l : Position) → S l → Precedes c (log_of entries) l k) → IsClock c entries links k cut → IsBrought c entries links S cut
brought_one c entries links S cut k one all clock i number has = (λ come. (k, one, (clock i number has).0 come), λ w. (clock i number has).1 (Precedes-joined w.2 (all w.0 w.1)))

max_of : (a b d own k : ℕ) → (k < max (max (max a b) d) own) ↔ (k < a) ⊎ (k < b) ⊎ (k < d) ⊎ (k < own)
max_of a b d own k = grind arith

-- the entries that are counted with the entry's number up to it precede it
abbrev pub IsOwn : Causality → List Entry → List Link → Position → ℕ → Type 0
IsOwn c entries links j number = (i : Position) → HasColumn c entries links i number → i.number ≤ j.number → Precedes c (log_of entries) i j

module _ (c : Causality) (entries : List Entry) (links : List Link) (j : Position) (S T U : Position → Type 0) (column : ℕ) (a b d cut : Cut) (has : HasColumn c entries links j column)
    (own : IsOwn c entries links j column) (ways : (k : Position) → Leads c (log_of entries) k j ↔ S k ⊎ T k ⊎ U k)
    (is_a : IsBrought c entries links S a) (is_b : IsBrought c entries links T b) (is_d : IsBrought c entries links U d)
    (joins : (q : ℕ) → cut q ≡ max (max (max (a q) (b q)) (d q)) (cond (q == column) (j.number + 1) 0))
    (one : (q : ℕ) → HasColumn c entries links j q → q ≡ column) where
  has_come : (i : Position) (q : ℕ) → HasColumn c entries links i q → i.number < cut q → Precedes c (log_of entries) i j
  has_come i q at_q come =
      let come' : i.number < max (max (max (a q) (b q)) (d q)) (cond (q == column) (j.number + 1) 0) = (rw joins at come) in
      elim ((max_of (a q) (b q) (d q) (cond (q == column) (j.number + 1) 0) i.number).0 come') [
        | inl x ↦ (let w = (is_a i q at_q).0 x in step w.2 ((ways w.0).1 (inl w.1)))
        | inr (inl x) ↦ (let w = (is_b i q at_q).0 x in step w.2 ((ways w.0).1 (inr (inl w.1))))
        | inr (inr (inl x)) ↦ (let w = (is_d i q at_q).0 x in step w.2 ((ways w.0).1 (inr (inr w.1))))
        | inr (inr (inr x)) ↦
            let both : (q ≡ column) × (i.number < j.number + 1) = grind (arith, nat_tests) in
            own i (subst (HasColumn c entries links i) both.0 at_q) (omega (arith, both.1))
      ]

  comes : (i : Position) (q : ℕ) → HasColumn c entries links i q → Precedes c (log_of entries) i j → i.number < cut q
  comes i q at_q p =
      let more = max_of (a q) (b q) (d q) (cond (q == column) (j.number + 1) 0) i.number in
      let enough : (i.number < a q) ⊎ (i.number < b q) ⊎ (i.number < d q) ⊎ (i.number < cond (q == column) (j.number + 1) 0) = elim (last_step p) [
        | inl is ↦
            let same = one q (subst (λ (x : Position). HasColumn c entries links x q) is at_q) in
            let number = ap (λ x. x.number) is in
            inr (inr (inr (grind (arith, nat_tests, same, number))))
        | inr (k, before, leads) ↦ elim ((ways k).0 leads) [
          | inl x ↦ inl ((is_a i q at_q).1 (k, x, before))
          | inr (inl x) ↦ inr (inl ((is_b i q at_q).1 (k, x, before)))
          | inr (inr x) ↦ inr (inr (inl ((is_d i q at_q).1 (k, x, before))))
        ]
      ] in
      (rw joins (more.1 enough))

  pub clock_next : IsClock c entries links j cut
  clock_next i q at_q = (has_come i q at_q, comes i q at_q)

-- where those are the member's
pub own_happened : (entries : List Entry) (links : List Link) (j : Position) (q : ℕ) (b : Entry) → IsAt (log_of entries) j b → j.member ≡ q → IsOwn HappenedBefore entries links j q
own_happened entries links j q b here at_j i at_i behind =
    let a = there_before (log_of entries) j.member i.number j.number b here behind in
    let P : ℕ → Type 0 = λ m. Precedes HappenedBefore (log_of entries) (at m i.number) j in
    subst P (at_j ∙ sym at_i) (own_precedes (log_of entries) j.member i.number j.number a.0 b a.1 here behind)

-- ---- by links

-- what leads to an entry at once from its member's log, with a message, and from the restart that begins the life that it names
abbrev pub ByOrder : Causality → Logs → Position → Position → Type 0
ByOrder HappenedBefore logs j k = IsEarlier logs k j
ByOrder Dependence logs j k = StoodBefore logs k j

abbrev pub ByMessage : Causality → Logs → Position → Position → Type 0
ByMessage HappenedBefore logs j k = IsMessageOf logs j k
ByMessage Dependence logs j k = Carries logs k j

abbrev pub ByRestart : Causality → Logs → Position → Position → Type 0
ByRestart HappenedBefore logs j k = Begins logs k j
ByRestart Dependence logs j k = ⊥

pub ways : (c : Causality) (logs : Logs) (j k : Position) → Leads c logs k j ↔ ByOrder c logs j k ⊎ ByMessage c logs j k ⊎ ByRestart c logs j k
ways HappenedBefore logs j k = (
  elim [ inl own ↦ inl own | inr (inl carries) ↦ inr (inl (inl carries)) | inr (inr (inl tells)) ↦ inr (inl (inr tells)) | inr (inr (inr begins)) ↦ inr (inr begins) ],
  elim [ inl own ↦ inl own | inr (inl (inl carries)) ↦ inr (inl carries) | inr (inl (inr tells)) ↦ inr (inr (inl tells)) | inr (inr begins) ↦ inr (inr (inr begins)) ],
)
ways Dependence logs j k = (elim [ inl own ↦ inl own | inr carries ↦ inr (inl carries) ], elim [ inl own ↦ inl own | inr (inl carries) ↦ inr carries | inr (inr none) ↦ absurd none ])

-- a receipt takes a message, and another entry takes none
receives : (r s : Mark) → send_of r ≡ Some s → ¬ (determinant_of r ≡ None)
receives (Send from ssn to) s takes none = cc
receives (Receipt to rsn from ssn) s takes none = cc

taken_none : (logs : Logs) (i j : Position) (e : Entry) → IsAt logs j e → receipt_in e ≡ None → ¬ (Carries logs i j)
taken_none logs i j e here none carries =
    let same : e ≡ carries.2 = (let s : Some e ≡ Some carries.2 = sym here ∙ carries.4 in cc) in
    receives carries.1 carries.0 carries.6 (ap (option_and_then determinant_of) (sym carries.5 ∙ ap mark_in (sym same)) ∙ none)

told_none : (logs : Logs) (i j : Position) (e : Entry) (d : Determinant) → IsAt logs j e → receipt_in e ≡ Some d → ¬ (Tells logs i j)
told_none logs i j e d here some tells =
    let same : e ≡ Told tells.0 = (let s : Some e ≡ Some (Told tells.0) = sym here ∙ tells.2 in cc) in
    (let none : None ≡ Some d = ap receipt_in (sym same) ∙ some in cc)

taken_place : (entries : List Entry) (j : Position) (e : Entry) (r : Option Determinant) (o : Option ℕ) → IsAt (log_of entries) j e → receipt_in e ≡ r
    → IsPlaceOf entries (IsMessageOf (log_of entries) j) o → IsPlaceOf entries (λ k. Carries (log_of entries) k j) (message_taken r o)
taken_place entries j e None o here none found = λ k carries. taken_none (log_of entries) k j e here none carries
taken_place entries j e (Some d) None here some found = λ k carries. found k (inl carries)
taken_place entries j e (Some d) (Some place) here some found = (
  found.0,
  found.1,
  elim found.2 [ inl carries ↦ carries | inr tells ↦ absurd (told_none (log_of entries) found.0 j e d here some tells) ],
  λ k carries. found.3 k (inl carries),
)

module _ (entries : List Entry) (links : List Link) (are : AreLinks entries links) where
  -- an entry is counted with one number
  pub one_column : (c : Causality) (j : Position) (q r : ℕ) → HasColumn c entries links j q → HasColumn c entries links j r → q ≡ r
  one_column HappenedBefore j q r a b = sym a ∙ b
  one_column Dependence j q r a b =
      let place : a.0 ≡ b.0 = one_place_of entries a.0 b.0 j a.2 b.2 in
      let link : a.1 ≡ b.1 = (let s : Some a.1 ≡ Some b.1 = sym a.3 ∙ ap (slice_get links) place ∙ b.3 in cc) in
      sym a.4 ∙ ap (λ (l : Link). l.life) link ∙ b.4

  -- and those before it that are counted with it precede it
  pub own_before : (c : Causality) (j : Position) (q : ℕ) (b : Entry) → IsAt (log_of entries) j b → HasColumn c entries links j q → IsOwn c entries links j q
  own_before HappenedBefore j q b here at_j i at_i behind = own_happened entries links j q b here at_j i at_i behind
  own_before Dependence j q b here at_j i at_i behind =
      let logs = log_of entries in
      let life : AreOfOneLife logs i j = (are.life at_i.0 at_j.0 i j at_i.1 at_j.1 at_i.2 at_j.2 at_i.3 at_j.3).0 (at_i.4 ∙ sym at_j.4) in
      let a = there_at entries at_i.0 i at_i.2 in
      elim (cases_eq i.number j.number) [
        | inl same ↦ subst (λ (x : Position). Precedes Dependence logs i x) (same_position i j life.0 same) (itself a.1)
        | inr ne ↦
            let before : i.number < j.number = omega (arith, behind, ne) in
            let stood : StandsBehind (logs i.member) i.number (j.number + 1) =
            (omega arith, λ number r after upto is. absurd (let no = (life.1 number r is).1 (omega (arith, upto)) in omega (arith, after, no))) in
            step (itself a.1) (inl ((a.0, b, a.1, here, life.0, before), stood))
      ]

  -- what the one of the place brings
  brought_last : (c : Causality) (S : Position → Type 0) (P : Position → Position → Type 0) (o : Option ℕ) (cut : Cut) → ((k i : Position) → P k i → Leads c (log_of entries) k i)
      → IsLastPlace entries S P o → IsPredecessorClock c entries links o cut → IsBrought c entries links S cut
  brought_last c S P None cut leads last clock = brought_none c entries links S cut last clock
  brought_last c S P (Some place) cut leads last clock = brought_one c entries links S cut last.0 last.2 (λ l at_l. elim (last.3 l at_l) [
    | inl same ↦ subst (λ (x : Position). Precedes c (log_of entries) x last.0) (sym same) (itself (there_at entries place last.0 last.1).1)
    | inr p ↦ (let w = leads l last.0 p in step (itself (leads_there c (log_of entries) l last.0 w).0.1) w)
  ]) (clock last.0 last.1)

  module _ (j : Position) (e : Entry) (here : IsAt (log_of entries) j e) (link : Link) (is : IsLink entries j link) where
    order_place : (c : Causality) → IsLastPlace entries (ByOrder c (log_of entries) j) (λ k i. ByOrder c (log_of entries) i k) (predecessors_of c e link).before
    order_place HappenedBefore = is.previous
    order_place Dependence = is.stood

    message_place : (c : Causality) → IsPlaceOf entries (ByMessage c (log_of entries) j) (predecessors_of c e link).message
    message_place HappenedBefore = is.message
    message_place Dependence = taken_place entries j e (receipt_in e) link.message here refl is.message

    restart_place : (c : Causality) → IsPlaceOf entries (ByRestart c (log_of entries) j) (predecessors_of c e link).begins
    restart_place HappenedBefore = is.begins
    restart_place Dependence = λ k none. none

    -- so its clock is found by those of what leads to it
    pub clock_joined : (c : Causality) (number : ℕ) (base cut : Cut) → HasColumn c entries links j number → IsJoined c entries links (predecessors_of c e link) base
        → ((q : ℕ) → cut q ≡ reached_cut base number (j.number + 1) q) → IsClock c entries links j cut
    clock_joined c number base cut has joined reached =
        let logs = log_of entries in
        clock_next c entries links j (ByOrder c logs j) (ByMessage c logs j) (ByRestart c logs j) number joined.0 joined.1 joined.2 cut has (own_before c j number e here has) (ways c logs j)
        (brought_last c (ByOrder c logs j) (λ k i. ByOrder c logs i k) (predecessors_of c e link).before joined.0 (λ k i own. (ways c logs i k).1 (inl own)) (order_place c) joined.3)
        (brought_last c (ByMessage c logs j) (λ k i. ⊥) (predecessors_of c e link).message joined.1 (λ k i none. absurd none) (message_place c) joined.4)
        (brought_last c (ByRestart c logs j) (λ k i. ⊥) (predecessors_of c e link).begins joined.2 (λ k i none. absurd none) (restart_place c) joined.5)
        (λ q. reached q ∙ ap (λ k. max k (cond (q == number) (j.number + 1) 0)) (joined.6 q))
        (λ q at_q. one_column c j q number at_q has)

    -- what leads to it in its member's log stands among the ones before it
    pub before_among : (c : Causality) → IsAmong entries (predecessors_of c e link).before j.number
    before_among c place i some stands = among c (predecessors_of c e link).before (order_place c) place i some stands where
      earlier : (c : Causality) (k : Position) → ByOrder c (log_of entries) j k → k.number < j.number
      earlier HappenedBefore k own = own.5
      earlier Dependence k own = own.0.5

      among : (c : Causality) (o : Option ℕ) → IsLastPlace entries (ByOrder c (log_of entries) j) (λ k i. ByOrder c (log_of entries) i k) o → IsAmong entries o j.number
      among c None last place i some stands = absurd cc
      among c (Some x) last place i some stands =
          let at_x : x ≡ place = cc in
          let same : last.0 ≡ i = one_position entries place last.0 i (subst (λ (x : ℕ). StandsAt entries x last.0) at_x last.1) stands in
          subst (λ (k : Position). k.number < j.number) same (earlier c last.0 last.2)

    -- and each place of what leads to it comes before its own
    module _ (n : ℕ) (lawful : AreLawful n entries) (p : ℕ) (stands : StandsAt entries p j) where
      place_below : (c : Causality) (S : Position → Type 0) (P : Position → Position → Type 0) (o : Option ℕ) → ((k : Position) → S k → Leads c (log_of entries) k j) → IsLastPlace entries S P o
          → IsBelow p o
      place_below c S P None leads last place some = absurd cc
      place_below c S P (Some x) leads last place some =
          let at_x : x ≡ place = cc in
          let before = leads_before n entries lawful c x p last.0 j last.1 stands (leads last.0 last.2) in
          omega (arith, before, at_x)

      pub predecessors_below : (c : Causality) → AreBelow p (predecessors_of c e link)
      predecessors_below c = (
        place_below c (ByOrder c (log_of entries) j) (λ k i. ByOrder c (log_of entries) i k) (predecessors_of c e link).before (λ k own. (ways c (log_of entries) j k).1 (inl own)) (order_place c),
        place_below c (ByMessage c (log_of entries) j) (λ k i. ⊥) (predecessors_of c e link).message (λ k m. (ways c (log_of entries) j k).1 (inr (inl m))) (message_place c),
        place_below c (ByRestart c (log_of entries) j) (λ k i. ⊥) (predecessors_of c e link).begins (λ k b. (ways c (log_of entries) j k).1 (inr (inr b))) (restart_place c),
      )

-- ---- each entry has a past

-- the log has a restart that begins the life, or none
abbrev Decided : List Entry → ℕ → Type 0
Decided log life =
    ((k : ℕ) × (r : restart.Restart) × (slice_get log k ≡ Some (Restart r)) × (r.life ≡ life)) ⊎ ((k : ℕ) (r : restart.Restart) → slice_get log k ≡ Some (Restart r) → r.life ≢ life)

further : (x : Entry) (log : List Entry) (life : ℕ) → ((r : restart.Restart) → x ≡ Restart r → r.life ≢ life) → Decided log life → Decided (x ∷ log) life
further x log life not_first (inl w) = inl (suc w.0, w.1, w.2, w.3)
further x log life not_first (inr none) = inr (elim [ zero ↦ λ r is. not_first r (let s : Some x ≡ Some (Restart r) = is in cc) | suc k ↦ none k ])

with_first : (x : Entry) (log : List Entry) (life : ℕ) → Decided log life → Decided (x ∷ log) life
with_first (Restart r) log life rest = elim (cases_eq r.life life) [
  | inl same ↦ inl (0, r, refl, same)
  | inr ne ↦ further (Restart r) log life (λ s is begins. ne (let same : r ≡ s = cc in ap (λ (r : restart.Restart). r.life) same ∙ begins)) rest
]
with_first e log life rest = further e log life (λ r is. absurd cc) rest

find_restart : (log : List Entry) (life : ℕ) → Decided log life
find_restart [] life = inr (λ k r is. absurd cc)
find_restart (x ∷ log) life = with_first x log life (find_restart log life)

module _ (n : ℕ) (entries : List Entry) (lawful : AreLawful n entries) where
  abbrev HasClock : Position → Type 0
  HasClock i = (cut : Cut) × IsClock HappenedBefore entries [] i cut

  abbrev Brings : (Position → Type 0) → Type 0
  Brings S = (cut : Cut) × IsBrought HappenedBefore entries [] S cut

  abbrev HasClocks : ℕ → Type 0
  HasClocks P = (p : ℕ) (i : Position) → p < P → StandsAt entries p i → HasClock i

  nothing : (S : Position → Type 0) → ((k : Position) → ¬ (S k)) → Brings S
  nothing S none = (λ q. 0, brought_none HappenedBefore entries [] S (λ q. 0) none (λ q. refl))

  -- where just one of them leads to the entry
  just_one : (S : Position → Type 0) (k : Position) (a : Entry) → IsAt (log_of entries) k a → S k → ((l : Position) → S l → l ≡ k) → HasClock k → Brings S
  just_one S k a here one alone clock = (
    clock.0,
    brought_one HappenedBefore entries [] S clock.0 k one
        (λ l is. subst (λ (x : Position). Precedes HappenedBefore (log_of entries) x k) (sym (alone l is)) (itself here)) clock.1,
  )

  module _ (P : ℕ) (j : Position) (stands : StandsAt entries P j) (e : Entry) (here : slice_get entries P ≡ Some e) (clocks : HasClocks P) where
    at_j : IsAt (log_of entries) j e
    at_j = stands_at entries P j e stands here

    by_order : Brings (λ k. IsEarlier (log_of entries) k j)
    by_order = by_number j.number refl where
      by_number : (number : ℕ) → j.number ≡ number → Brings (λ k. IsEarlier (log_of entries) k j)
      by_number zero first = nothing (λ k. IsEarlier (log_of entries) k j) (λ k own. (let less = own.5 in omega (arith, less, first)))
      by_number (suc number) later =
          let logs = log_of entries in
          let k = at j.member number in
          let a = there_before logs j.member number j.number e at_j (omega (arith, later)) in
          let own : IsEarlier logs k j = (a.0, e, a.1, at_j, refl, omega (arith, later)) in
          let place = stands_somewhere entries k a.0 a.1 in
          let clock = clocks place.0 k (earlier_before n entries lawful place.0 P k j place.2 stands own) place.2 in (
            clock.0,
            brought_one HappenedBefore entries [] (λ k. IsEarlier logs k j) clock.0 k own (λ l before. (
                let same = before.4 in
                let less = before.5 in
                let Q : ℕ → Type 0 = λ m. IsAt logs (at m l.number) before.0 → Precedes HappenedBefore logs (at m l.number) k in
                subst Q (sym same) (λ at_l. own_precedes logs j.member l.number number before.0 a.0 at_l a.1 (omega (arith, less, later))) before.2)) clock.1,
          )

    from_send : (r s : Mark) (d : Determinant) → mark_in e ≡ Some r → send_of r ≡ Some s → receipt_in e ≡ Some d → Brings (IsMessageOf (log_of entries) j)
    from_send r s d mark takes receipt =
        let w = carried n entries lawful P j e r s stands here mark takes in
        just_one (IsMessageOf (log_of entries) j) w.0 (Event w.4.0) w.4.3 (inl w.4)
        (λ l. elim [ inl carries ↦ carries_one n entries lawful l w.0 j carries w.4 | inr tells ↦ absurd (told_none (log_of entries) l j e d at_j receipt tells) ])
        (clocks w.1 w.0 w.2 w.3)

    no_message : receipt_in e ≡ None → ((m : ControlMessage) → ¬ (e ≡ Told m)) → Brings (IsMessageOf (log_of entries) j)
    no_message none untold = nothing (IsMessageOf (log_of entries) j) (λ k. elim [
      | inl carries ↦ taken_none (log_of entries) k j e at_j none carries
      | inr tells ↦ untold tells.0 (let s : Some e ≡ Some (Told tells.0) = sym at_j ∙ tells.2 in cc)
    ])

    no_restart : ((d : Determinant) (life : ℕ) → ¬ (e ≡ LaterReceipt d life)) → Brings (λ k. Begins (log_of entries) k j)
    no_restart none = nothing (λ k. Begins (log_of entries) k j) (λ k begins. none begins.1 begins.0.life (let s : Some e ≡ Some (LaterReceipt begins.1 begins.0.life) = sym at_j ∙ begins.3 in cc))

    from_tell : (m : ControlMessage) → e ≡ Told m → Brings (IsMessageOf (log_of entries) j)
    from_tell m is =
        let told : slice_get entries P ≡ Some (Told m) = here ∙ ap Some is in
        let w = told_before n entries (are_told n entries lawful) P m told in
        let there = here_stands entries w.0 (Tell m) w.2 in
        let k = at m.from (seen entries w.0 m.from) in
        let at_k = stands_at entries w.0 k (Tell m) there w.2 in
        let tells : Tells (log_of entries) k j = (m, at_k, at_j ∙ ap Some is) in
        just_one (IsMessageOf (log_of entries) j) k (Tell m) at_k (inr tells)
        (λ l. elim [ inl carries ↦ absurd (taken_none (log_of entries) l j e at_j (ap receipt_in is) carries) | inr more ↦ tells_one n entries lawful l k j more tells ])
        (clocks w.0 k w.1 there)

    from_restart : (d : Determinant) (life : ℕ) → e ≡ LaterReceipt d life → Brings (λ k. Begins (log_of entries) k j)
    from_restart d life is = elim (find_restart (log_of entries d.from) life) [
      | inl (number, r, at_r, begun) ↦
          let k = at d.from number in
          let begins : Begins (log_of entries) k j = (r, d, at_r, at_j ∙ ap Some is ∙ ap (λ l. Some (LaterReceipt d l)) (sym begun), refl) in
          let place = stands_somewhere entries k (Restart r) at_r in
          just_one (λ k. Begins (log_of entries) k j) k (Restart r) at_r begins (λ l more. begins_one n entries lawful l k j more begins)
          (clocks place.0 k (begins_before n entries lawful place.0 P k j place.2 stands begins) place.2)
      | inr none ↦ nothing (λ k. Begins (log_of entries) k j) (λ k begins. (
          let same : LaterReceipt d life ≡ LaterReceipt begins.1 begins.0.life = (let s : Some (LaterReceipt d life) ≡ Some (LaterReceipt begins.1 begins.0.life) = sym (at_j ∙ ap Some is) ∙ begins.3 in cc) in
          let from : d ≡ begins.1 = cc in
          let life' : life ≡ begins.0.life = cc in
          let member : k.member ≡ d.from = sym begins.4 ∙ ap (λ (d : Determinant). d.from) (sym from) in
          none k.number begins.0 (subst (λ (m : ℕ). slice_get (log_of entries m) k.number ≡ Some (Restart begins.0)) member begins.2) (sym life')))
    ]

    clock_here : Brings (IsMessageOf (log_of entries) j) → Brings (λ k. Begins (log_of entries) k j) → HasClock j
    clock_here message begins =
        let order = by_order in
        let cut : Cut = λ q. max (max (max (order.0 q) (message.0 q)) (begins.0 q)) (cond (q == j.member) (j.number + 1) 0) in (
          cut,
          clock_next HappenedBefore entries [] j (λ k. IsEarlier (log_of entries) k j) (IsMessageOf (log_of entries) j) (λ k. Begins (log_of entries) k j) j.member order.0 message.0 begins.0 cut refl
              (own_happened entries [] j j.member e at_j refl) (ways HappenedBefore (log_of entries) j) order.1 message.1 begins.1 (λ q. refl) (λ q same. sym same),
        )

  clock_of_entry : (P : ℕ) (j : Position) → StandsAt entries P j → (e : Entry) → slice_get entries P ≡ Some e → HasClocks P → HasClock j
  clock_of_entry P j stands (Event (Send from ssn to)) here clocks =
      let e = Event (Send from ssn to) in
      clock_here P j stands e here clocks (no_message P j stands e here clocks refl (λ m is. cc)) (no_restart P j stands e here clocks (λ d life is. cc))
  clock_of_entry P j stands (Event (Receipt to rsn from ssn)) here clocks =
      let e = Event (Receipt to rsn from ssn) in
      clock_here P j stands e here clocks
      (from_send P j stands e here clocks (Receipt to rsn from ssn) (Send from ssn to) _ refl refl refl) (no_restart P j stands e here clocks (λ d life is. cc))
  clock_of_entry P j stands (LaterReceipt d life) here clocks =
      let e = LaterReceipt d life in
      clock_here P j stands e here clocks (from_send P j stands e here clocks (receipt_of d) (Send d.from d.ssn d.to) d refl refl refl) (from_restart P j stands e here clocks d life refl)
  clock_of_entry P j stands (Hold q d) here clocks =
      clock_here P j stands (Hold q d) here clocks (no_message P j stands (Hold q d) here clocks refl (λ m is. cc)) (no_restart P j stands (Hold q d) here clocks (λ d life is. cc))
  clock_of_entry P j stands (Store q d) here clocks =
      clock_here P j stands (Store q d) here clocks (no_message P j stands (Store q d) here clocks refl (λ m is. cc)) (no_restart P j stands (Store q d) here clocks (λ d life is. cc))
  clock_of_entry P j stands (Tell m) here clocks =
      clock_here P j stands (Tell m) here clocks (no_message P j stands (Tell m) here clocks refl (λ m is. cc)) (no_restart P j stands (Tell m) here clocks (λ d life is. cc))
  clock_of_entry P j stands (Told m) here clocks =
      clock_here P j stands (Told m) here clocks (from_tell P j stands (Told m) here clocks m refl) (no_restart P j stands (Told m) here clocks (λ d life is. cc))
  clock_of_entry P j stands (Restart r) here clocks =
      clock_here P j stands (Restart r) here clocks (no_message P j stands (Restart r) here clocks refl (λ m is. cc)) (no_restart P j stands (Restart r) here clocks (λ d life is. cc))

  clocks_below : (P : ℕ) → HasClocks P
  clocks_below zero p i below stands = absurd (omega (arith, below))
  clocks_below (suc P) p i below stands = elim (cases_eq p P) [
    | inl same ↦
        let there = subst (λ (x : ℕ). StandsAt entries x i) same stands in
        clock_of_entry P i there there.0 there.1 (clocks_below P)
    | inr ne ↦ clocks_below P p i (omega (arith, below, ne)) stands
  ]

  -- the past of an entry is a cut
  pub has_past : (j : Position) (e : Entry) → IsAt (log_of entries) j e → (cut : Cut) × IsPast entries j cut
  has_past j e here =
      let place = stands_somewhere entries j e here in
      let clock = clocks_below (suc place.0) place.0 j (omega arith) place.2 in
      (clock.0, λ i. clock.1 i i.member refl)
