-- The least moment at which an entry has come.
use Rattle.fbl_judge.proofs.Common.{ℕ, zero, suc, Bool, true, false, ◌≡◌, ◌<◌, ◌≤◌, ◌⊎◌, ◌↔◌, inl, inr, List, [], ◌∷◌, Some, slice_get, length, refl, sym, subst, ◌∙◌, arith, cases_lt, false≢true, slice_get_within}
use Rattle.fbl_judge.proofs.Common.{AreEntries, HappenedBefore, Entry, Event, Hold, Send, Store, Tell, IsArrival, IsRecord, Logs, log_of, IsAt, Leads, Position, Precedes, at, itself, step, Cut, HasCome, IsInStepOf, IsLeastMoment}
use Rattle.fbl_runs.specs.Precedence.{IsPast}
use Rattle.fbl_runs.proofs.ClockLaws.{Precedes-joined, first_there, has_past, leads_there}
use Rattle.fbl_judge.specs.Laws.{LeastMomentLaw}
use Rattle.fbl_judge.proofs.MomentLaws.{arrival_no_record, moment_closed, no_record, own_before, same_at, step_there, to_record}

-- ---- the steps of a log's first entries

-- an entry is a hold or a store, or an arrival, or neither
data Kind (e : Entry) : Type 0 where
  is_record : IsRecord e → Kind e
  is_arrival : IsArrival e → ¬ (IsRecord e) → Kind e
  is_other : ¬ (IsRecord e) → ¬ (IsArrival e) → Kind e

kind : (e : Entry) → Kind e
kind (Hold q d) = is_record (d, refl)
kind (Store q d) = is_record (d, refl)
kind (Event (Send from ssn to)) = is_other (no_record (Event (Send from ssn to)) refl) (λ no'. no')
kind (Tell m) = is_other (no_record (Tell m) refl) (λ no'. no')
kind e = is_arrival tt (no_record e refl)

abbrev RecordAt : List Entry → ℕ → Type 0
RecordAt log x = (e : Entry) × (slice_get log x ≡ Some e) × IsRecord e

abbrev ArrivalAt : List Entry → ℕ → Type 0
ArrivalAt log x = (e : Entry) × (slice_get log x ≡ Some e) × IsArrival e

-- it is one of the first c, or of a step of one of them, or, where a step is open, of that
abbrev Reached : Bool → List Entry → ℕ → ℕ → Type 0
Reached open' log c k =
    (k < c) ⊎ ((open' ≡ true) × ((x : ℕ) → x ≤ k → RecordAt log x)) ⊎ ((l : ℕ) × (l < c) × ArrivalAt log l × (l < k) × ((x : ℕ) → l < x → x ≤ k → RecordAt log x))

-- where a step is open, it ends at what is no hold or store
ended : (e : Entry) (log : List Entry) → ¬ (IsRecord e) → (end : ℕ) × ((k : ℕ) → (k < end) ↔ Reached true (e ∷ log) zero k)
ended e log none = (
  0,
  λ k. (
    λ h. absurd (omega (arith, h)),
    elim [
      | inl h ↦ h
      | inr (inl h) ↦ absurd (let r = h.1 zero (omega arith) in let same : e ≡ r.0 = (let s : Some e ≡ Some r.0 = r.1 in cc) in none (subst IsRecord (sym same) r.2))
      | inr (inr h) ↦ absurd (let l = h.1 in omega (arith, l))
    ],
  ),
)

-- and has one entry more that is
open_end : (e : Entry) (log : List Entry) → Kind e → (end : ℕ) × ((k : ℕ) → (k < end) ↔ Reached true log zero k) → (end : ℕ) × ((k : ℕ) → (k < end) ↔ Reached true (e ∷ log) zero k)
open_end e log (is_other none not') rest = ended e log none
open_end e log (is_arrival arrives none) rest = ended e log none
open_end e log (is_record own) rest = (
  suc rest.0,
  elim [
    | zero ↦ (λ h. inr (inl (refl, elim [ zero ↦ λ upto. (e, refl, own) | suc x ↦ λ upto. absurd (omega (arith, upto)) ])), λ h. omega arith)
    | suc k ↦ (
      λ h. elim ((rest.1 k).0 (omega (arith, h))) [
        | inl r ↦ absurd (omega (arith, r))
        | inr (inl r) ↦ inr (inl (refl, elim [ zero ↦ λ upto. (e, refl, own) | suc x ↦ λ upto. r.1 x (omega (arith, upto)) ]))
        | inr (inr r) ↦ absurd (let l = r.1 in omega (arith, l))
      ],
      elim [
        | inl r ↦ absurd (omega (arith, r))
        | inr (inl r) ↦ (let less = (rest.1 k).1 (inr (inl (refl, λ x upto. r.1 (suc x) (omega (arith, upto))))) in omega (arith, less))
        | inr (inr r) ↦ absurd (let l = r.1 in omega (arith, l))
      ],
    )
  ],
)

-- with an entry before them, behind which a step is open or not
with_rest : (open' next : Bool) (e : Entry) (log : List Entry) (c : ℕ) → ((next ≡ true) ↔ ((open' ≡ true) × IsRecord e) ⊎ IsArrival e) → (end : ℕ) × ((k : ℕ) → (k < end) ↔ Reached next log c k)
    → (end : ℕ) × ((k : ℕ) → (k < end) ↔ Reached open' (e ∷ log) (suc c) k)
with_rest open' next e log c is rest = (
  suc rest.0,
  elim [
    | zero ↦ (λ h. inl (omega arith), λ h. omega arith)
    | suc k ↦ (
      λ h. elim ((rest.1 k).0 (omega (arith, h))) [
        | inl r ↦ inl (omega (arith, r))
        | inr (inl r) ↦ elim (is.0 r.0) [
          | inl o ↦ inr (inl (o.0, elim [ zero ↦ λ upto. (e, refl, o.1) | suc x ↦ λ upto. r.1 x (omega (arith, upto)) ]))
          | inr a ↦ inr (inr (zero, omega arith, (e, refl, a), omega arith, elim [ zero ↦ λ after upto. absurd (omega (arith, after)) | suc x ↦ λ after upto. r.1 x (omega (arith, upto)) ]))
        ]
        | inr (inr r) ↦ inr (inr (suc r.0, (let l = r.1 in omega (arith, l)), r.2, (let l = r.3 in omega (arith, l)), elim [ zero ↦ λ after upto. absurd (omega (arith, after)) | suc x ↦ λ after upto. r.4 x (omega (arith, after)) (omega (arith, upto)) ]))
      ],
      elim [
        | inl r ↦ (let less = (rest.1 k).1 (inl (omega (arith, r))) in omega (arith, less))
        | inr (inl r) ↦
            let own = r.1 zero (omega arith) in
            let same : e ≡ own.0 = (let s : Some e ≡ Some own.0 = own.1 in cc) in
            let less = (rest.1 k).1 (inr (inl (is.1 (inl (r.0, subst IsRecord (sym same) own.2)), λ x upto. r.1 (suc x) (omega (arith, upto))))) in
            omega (arith, less)
        | inr (inr r) ↦ (let less = (rest.1 k).1 (by_place k r.0 r.1 r.2 r.3 r.4) in omega (arith, less))
      ],
    )
  ],
) where
  by_place : (k l : ℕ) → l < suc c → ArrivalAt (e ∷ log) l → l < suc k → ((x : ℕ) → l < x → x ≤ suc k → RecordAt (e ∷ log) x) → Reached next log c k
  by_place k zero below arrival before records =
      let same : e ≡ arrival.0 = (let s : Some e ≡ Some arrival.0 = arrival.1 in cc) in
      inr (inl (is.1 (inr (subst IsArrival (sym same) arrival.2)), λ x upto. records (suc x) (omega arith) (omega (arith, upto))))
  by_place k (suc l) below arrival before records = inr (inr (l, omega (arith, below), arrival, omega (arith, before), λ x after upto. records (suc x) (omega (arith, after)) (omega (arith, upto))))

with_kind : (open' : Bool) (e : Entry) (log : List Entry) (c : ℕ) → Kind e → ((next : Bool) → (end : ℕ) × ((k : ℕ) → (k < end) ↔ Reached next log c k)) → (end : ℕ) × ((k : ℕ) → (k < end) ↔ Reached open' (e ∷ log) (suc c) k)
with_kind open' e log c (is_arrival arrives none) rest = with_rest open' true e log c (λ h. inr arrives, λ h. refl) (rest true)
with_kind open' e log c (is_other none not') rest = with_rest open' false e log c (λ h. absurd (false≢true h), elim [ inl h ↦ absurd (none h.1) | inr h ↦ absurd (not' h) ]) (rest false)
with_kind open' e log c (is_record own) rest = with_rest open' open' e log c (λ h. inl (h, own), elim [ inl h ↦ h.0 | inr h ↦ absurd (arrival_no_record e h own) ]) (rest open')

-- so many are
reaches : (log : List Entry) (open' : Bool) (c : ℕ) → c ≤ length log → (end : ℕ) × ((k : ℕ) → (k < end) ↔ Reached open' log c k)
reaches [] open' zero within = (
  0,
  λ k. (
    λ h. absurd (omega (arith, h)),
    elim [
      | inl h ↦ h
      | inr (inl h) ↦ absurd (let r = h.1 k (omega arith) in let none : slice_get [] k ≡ Some r.0 = r.1 in cc)
      | inr (inr h) ↦ absurd (let l = h.1 in omega (arith, l))
    ],
  ),
)
reaches [] open' (suc c) within = absurd (omega (arith, within))
reaches (e ∷ log) false zero within = (
  0,
  λ k. (
    λ h. absurd (omega (arith, h)),
    elim [
      | inl h ↦ h
      | inr (inl h) ↦ absurd (false≢true h.0)
      | inr (inr h) ↦ absurd (let l = h.1 in omega (arith, l))
    ],
  ),
)
reaches (e ∷ log) true zero within = open_end e log (kind e) (reaches log true zero (omega arith))
reaches (e ∷ log) open' (suc c) within = with_kind open' e log c (kind e) (λ next. reaches log next c (omega (arith, within)))

-- ---- the past and its steps

module _ (n : ℕ) (entries : List Entry) (are : AreEntries n entries) (j : Position) (e : Entry) (here : IsAt (log_of entries) j e) where
  abbrev logs : Logs
  logs = log_of entries

  past : (cut : Cut) × IsPast entries j cut
  past = has_past n entries are.lawful j e here

  within : (q : ℕ) → past.0 q ≤ length (logs q)
  within q = elim (cases_lt (length (logs q)) (past.0 q)) [
    | inr fine ↦ fine
    | inl more ↦ absurd (
        let a = first_there ((past.1 (at q (length (logs q)))).0 more) in
        let below = slice_get_within (logs q) (length (logs q)) a.0 a.1 in
        omega (arith, below))
  ]

  cut : Cut
  cut q = (reaches (logs q) false (past.0 q) (within q)).0

  abbrev pub IsIn : Position → Type 0
  IsIn i = Precedes HappenedBefore logs i j ⊎ ((k : Position) × Precedes HappenedBefore logs k j × IsInStepOf logs k i)

  has : (i : Position) → HasCome cut i ↔ IsIn i
  unfolding cut
  has i =
      let r = (reaches (logs i.member) false (past.0 i.member) (within i.member)).1 i.number in (
        λ come. elim (r.0 come) [
          | inl p ↦ inl ((past.1 i).0 p)
          | inr (inl h) ↦ absurd (false≢true h.0)
          | inr (inr h) ↦ inr (at i.member h.0, (past.1 (at i.member h.0)).0 h.1, (h.2, refl, h.3, h.4))
        ],
        elim [
          | inl p ↦ r.1 (inl ((past.1 i).1 p))
          | inr (k, p, in_step) ↦ r.1 (inr (inr (of_step k p in_step)))
        ],
      ) where
        of_step : (k : Position) → Precedes HappenedBefore logs k j → IsInStepOf logs k i
            → (l : ℕ) × (l < past.0 i.member) × ArrivalAt (logs i.member) l × (l < i.number) × ((x : ℕ) → l < x → x ≤ i.number → RecordAt (logs i.member) x)
        of_step k p in_step =
            let P : ℕ → Type 0 = λ m. (l : ℕ) × (l < past.0 m) × ArrivalAt (logs m) l × (l < i.number) × ((x : ℕ) → l < x → x ≤ i.number → RecordAt (logs m) x) in
            subst P in_step.1 (k.number, (past.1 k).1 p, in_step.0, in_step.2, in_step.3)

  consistent : (i k : Position) → Leads HappenedBefore logs i k → HasCome cut k → HasCome cut i
  consistent i k leads come = elim ((has k).0 come) [
    | inl p ↦ (has i).1 (inl (Precedes-joined (step (itself (leads_there HappenedBefore logs i k leads).0.1) leads) p))
    | inr (x, p, in_step) ↦
        let b = step_there logs x k in_step in
        let own = to_record logs i k b.0 b.1 b.2 leads in
        let a = in_step.0 in
        (has i).1 (elim (cases_lt x.number i.number) [
          | inl behind ↦ inr (x, p, (in_step.0, in_step.1 ∙ sym own.4, behind, λ y after upto. in_step.3 y after (let less = own.5 in omega (arith, upto, less))))
          | inr before ↦ inl (Precedes-joined (own_before logs i x own.0 a.0 (own.4 ∙ sym in_step.1) before own.2 a.1) p)
        ])
  ]

  whole : (i k : Position) → IsInStepOf logs i k → HasCome cut i → HasCome cut k
  whole i k in_step come = elim ((has i).0 come) [
    | inl p ↦ (has k).1 (inr (i, p, in_step))
    | inr (x, p, behind) ↦ absurd (
        let b = step_there logs x i behind in
        let a = in_step.0 in
        arrival_no_record a.0 a.2 (subst IsRecord (same_at logs i b.0 a.0 b.1 a.1) b.2))
  ]

  least : IsLeastMoment logs j cut
  least = record {
    moment = record { consistent = consistent; whole = whole };
    has = (has j).1 (inl (itself here));
    least = λ other moment come q. elim (cases_lt (other q) (cut q)) [
      | inr fine ↦ fine
      | inl less ↦ absurd (elim ((has (at q (other q))).0 less) [
        | inl p ↦ (let x = moment_closed other moment p come in omega (arith, x))
        | inr (k, p, in_step) ↦ (let x = moment.whole k (at q (other q)) in_step (moment_closed other moment p come) in omega (arith, x))
      ])
    ];
  }

  pub has_least : (cut : Cut) × IsLeastMoment (log_of entries) j cut × ((i : Position) → HasCome cut i ↔ IsIn i)
  has_least = (cut, least, has)

pub least_moment_law : LeastMomentLaw
least_moment_law n entries are j e here = has_least n entries are j e here
