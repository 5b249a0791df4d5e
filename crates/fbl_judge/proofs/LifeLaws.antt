-- A member's life at a view: where in it the member first depends on a receipt, and the least moment at which it does.
use Rattle.fbl_judge.proofs.Common.{ℕ, ◌≡◌, ◌<◌, ◌≤◌, ◌+◌, inl, inr, max, Some, None, length, refl, ap, subst, ◌∙◌, arith, cases_eq, cases_lt, slice_get_within}
use Rattle.fbl_judge.proofs.Common.{Determinant, Mark, Receipt, Send, send_of, Dependence, Entry, Event, LaterReceipt, Restart, IsArrival, Logs, mark_in, receipt_in, IsAt, Leads, Position, Precedes, at, step, StandsBehind, Cut, DependsAt, HasCome, HasRestarted, IsMoment, IsReceiptAt, SameRestarts}
use Rattle.fbl_runs.proofs.ClockLaws.{last_step, last_there}
use Rattle.fbl_judge.specs.Candidates.{IsLeastIn, NoneDepends}
use Rattle.fbl_judge.specs.Pasts.{IsFirstInLife}
use Rattle.fbl_judge.specs.Views.{IsBase, IsLifeAt, IsOneLife, IsPastAndStep}
use Rattle.fbl_judge.proofs.MomentLaws.{stands_less, stands_on}
use Rattle.fbl_judge.proofs.PastLaws.{joined_moment, joined_parts, joined_within, past_has}

-- a receipt comes in
pub receipt_arrives : (e : Entry) (d : Determinant) → receipt_in e ≡ Some d → IsArrival e
receipt_arrives (Event (Receipt to rsn from ssn)) d is = tt
receipt_arrives (LaterReceipt x life) d is = tt
receipt_arrives e d is = absurd cc

taker_arrives : (b : Entry) (r s : Mark) → mark_in b ≡ Some r → send_of r ≡ Some s → IsArrival b
taker_arrives (Event (Send from ssn to)) r s is takes = absurd (let same : Send from ssn to ≡ r = cc in let none : None ≡ Some s = ap send_of same ∙ takes in cc)
taker_arrives (Event (Receipt to rsn from ssn)) r s is takes = tt
taker_arrives (LaterReceipt x life) r s is takes = tt
taker_arrives b r s is takes = absurd cc

-- between two of one life what depends goes on to
pub depends_on : (logs : Logs) (i : Position) (q start top x y : ℕ) → IsOneLife (logs q) start top → start ≤ x → x ≤ y → y < top → Precedes Dependence logs i (at q x) → (b : Entry) → IsAt logs (at q y) b → Precedes Dependence logs i (at q y)
depends_on logs i q start top x y life after upto before p b here = elim (cases_eq x y) [
  | inl same ↦ subst (λ (k : ℕ). Precedes Dependence logs i (at q k)) same p
  | inr ne ↦
      let a = last_there p in
      step p (inl (
        (a.0, b, a.1, here, refl, omega (arith, upto, ne)),
        stands_on (logs q) x (y + 1) (omega (arith, upto))
            (λ number r behind come at_number. life.none number r (omega (arith, after, behind)) (omega (arith, come, before)) at_number),
      ))
]

module _ (logs : Logs) (base : Cut) (is_base : IsBase logs base) (q start top : ℕ) (life : IsLifeAt logs base q start top) where
  pub one_life : IsOneLife (logs q) start top
  one_life = record {
    order = elim life.begun [ inl none ↦ omega (arith, none) | inr h ↦ (let x = h.2 in let y = life.come in omega (arith, x, y)) ];
    within = life.within;
    none = λ k r after before here. (let last = (life.last k r before here).0 in omega (arith, last, after));
  }

  -- where an entry before the life stands in it, the life begins with a restart that kept it
  kept_at_start : (x y : ℕ) → x < start → start < y → StandsBehind (logs q) x y → HasRestarted logs base (at q start) × StandsBehind (logs q) x (start + 1)
  kept_at_start x y before after stands = elim life.begun [
    | inl none ↦ absurd (omega (arith, none, before))
    | inr restart ↦ (restart, stands_less (logs q) x (start + 1) y (omega (arith, before)) (omega (arith, after)) stands)
  ]

  -- so what it depends on the restart does
  at_start : (i : Position) (x y : ℕ) → Precedes Dependence logs i (at q x) → x < start → start < y → StandsBehind (logs q) x y → Precedes Dependence logs i (at q start)
  at_start i x y p before after stands =
      let kept = kept_at_start x y before after stands in
      let a = last_there p in
      step p (inl ((a.0, Restart kept.0.0, a.1, kept.0.1, refl, before), kept.1))

  -- with a receipt, or a restart, the member first depends in its life on a receipt
  pub first_arrives : (i : Position) (d : Determinant) (k : ℕ) → IsReceiptAt logs d i → IsFirstInLife logs i q start top k → (e : Entry) × IsAt logs (at q k) e × IsArrival e
  first_arrives i d k receipt first = elim (last_step first.depends) [
    | inl same ↦ (let P : Position → Type 0 = λ x. (e : Entry) × IsAt logs x e × IsArrival e in subst P same (receipt.0, receipt.1, receipt_arrives receipt.0 d receipt.2))
    | inr (j, p, leads) ↦ by_step j p leads
  ] where
    by_step : (j : Position) → Precedes Dependence logs i j → Leads Dependence logs j (at q k) → (e : Entry) × IsAt logs (at q k) e × IsArrival e
    by_step j p (inr carries) = (carries.2, carries.4, taker_arrives carries.2 carries.1 carries.0 carries.5 carries.6)
    by_step j p (inl stood) =
        let own = stood.0.4 in
        let less = stood.0.5 in
        let p' : Precedes Dependence logs i (at q j.number) = subst (λ (m : ℕ). Precedes Dependence logs i (at m j.number)) own p in
        let stands : StandsBehind (logs q) j.number (k + 1) = subst (λ (m : ℕ). StandsBehind (logs m) j.number (k + 1)) own stood.1 in
        let after = first.after in
        elim (cases_lt j.number start) [
          | inr within ↦ absurd (first.first j.number within less p')
          | inl before ↦
              let kept = kept_at_start j.number (k + 1) before (omega (arith, after)) stands in
              elim (cases_eq start k) [
                | inl same ↦ (Restart kept.0.0, subst (λ (x : ℕ). IsAt logs (at q x) (Restart kept.0.0)) same kept.0.1, tt)
                | inr ne ↦ absurd (first.first start (omega arith) (omega (arith, after, ne)) (at_start i j.number (k + 1) p' before (omega (arith, after)) stands))
              ]
        ]

  -- at a moment with the same restarts at which it depends on it, some entry of its life does
  pub depends_in_life : (i : Position) (other : Cut) → SameRestarts logs base other → DependsAt logs other i q → (x : ℕ) × (start ≤ x) × (x < top) × (x < other q) × Precedes Dependence logs i (at q x)
  depends_in_life i other same depends =
      let x = depends.0 in
      let there = last_there depends.1 in
      let within = slice_get_within (logs q) x there.0 there.1 in
      let come = depends.2.0 in
      elim (cases_lt x start) [
        | inl before ↦ elim life.begun [
          | inl none ↦ absurd (omega (arith, none, before))
          | inr restart ↦
              let come_too = ((same (at q start)).0 restart).2 in
              (start, omega arith, (let a = restart.2 in let b = life.come in omega (arith, a, b)), come_too, at_start i x (other q) depends.1 before come_too depends.2)
        ]
        | inr after ↦ elim (cases_lt x top) [
          | inl fine ↦ (x, after, fine, come, depends.1)
          | inr past ↦ absurd (
              let next = life.next (omega (arith, past, within)) in
              let back = (same (at q top)).1 (next.0, next.1, omega (arith, past, come)) in
              let a = back.2 in let b = life.come in omega (arith, a, b))
        ]
      ]

  -- where none does there is no such moment
  pub none_depends : (i : Position) → ((k : ℕ) → start ≤ k → k < top → ¬ (Precedes Dependence logs i (at q k))) → NoneDepends logs i q base
  none_depends i none other moment same depends = (let x = depends_in_life i other same depends in none x.0 x.1 x.2 x.4)

  module _ (i : Position) (d : Determinant) (receipt : IsReceiptAt logs d i) (k : ℕ) (first : IsFirstInLife logs i q start top k) (past : Cut) (of : IsPastAndStep logs (at q k) past)
      (more : Cut) (join : (p : ℕ) → more p ≡ max (base p) (past p)) where
    there : (e : Entry) × IsAt logs (at q k) e × IsArrival e
    there = first_arrives i d k receipt first

    -- such a moment has the first entry that does, and all that has come with it
    pub first_within : (other : Cut) → IsMoment logs other → SameRestarts logs base other → DependsAt logs other i q → (p : ℕ) → more p ≤ other p
    first_within other moment same depends =
        let x = depends_in_life i other same depends in
        let come : HasCome other (at q k) = elim (cases_lt x.0 k) [
          | inl before ↦ absurd (first.first x.0 x.1 before x.4)
          | inr upto ↦ (let c = x.3 in omega (arith, upto, c))
        ] in
        joined_within logs (at q k) there.0 there.1 there.2 past of base more other join (is_base.least other moment (λ r. (same r).0)) moment come

    -- so it is the least where it has no other restarts
    pub first_least : SameRestarts logs base more → IsLeastIn logs i q base more
    first_least same = (
      same,
      record {
        moment = joined_moment logs (at q k) there.0 there.1 there.2 past of base more is_base.moment join (λ r has ne. (let in_more = (same r).1 (has.0, has.1, (joined_parts logs (at q k) there.0 there.1 there.2 past of base more join r).1 (inr has.2)) in in_more.2));
        depends = (
          k,
          first.depends,
          (let come = (joined_parts logs (at q k) there.0 there.1 there.2 past of base more join (at q k)).1 (inr (past_has logs (at q k) there.0 there.1 there.2 past of)) in
              stands_on (logs q) k (more q) come (λ number r behind upto at_number.
              let back = (same (at q number)).1 (r, at_number, upto) in
              let last = (life.last number r (let a = back.2 in let b = life.come in omega (arith, a, b)) at_number).0 in
              let after = first.after in
              omega (arith, last, behind, after))),
        );
        least = λ other moment same' depends p. first_within other moment (λ r. (λ h. (same' r).0 ((same r).0 h), λ h. (same r).1 ((same' r).1 h))) depends p;
      },
    )

    -- and there is none where it has
    pub first_none : ¬ (SameRestarts logs base more) → NoneDepends logs i q base
    first_none differs other moment same depends =
        let under = first_within other moment same depends in
        differs (λ r. (
          λ h. (h.0, h.1, (joined_parts logs (at q k) there.0 there.1 there.2 past of base more join r).1 (inl h.2)),
          λ h. (same r).1 (h.0, h.1, (let x = h.2 in let u = under r.member in omega (arith, x, u))),
        ))

-- ---- the members' lives

-- who has an entry is below 16, where nobody beyond has one
pub below_16 : (logs : Logs) → ((q : ℕ) → 16 ≤ q → length (logs q) ≡ 0) → (i : Position) (e : Entry) → IsAt logs i e → i.member < 16
below_16 logs none_beyond i e here = elim (cases_lt i.member 16) [
  | inl fine ↦ fine
  | inr past ↦ absurd (let none = none_beyond i.member past in let within = slice_get_within (logs i.member) i.number e here in omega (arith, none, within))
]

module _ (logs : Logs) (none_beyond : (q : ℕ) → 16 ≤ q → length (logs q) ≡ 0) (base : Cut) (starts tops : ℕ → ℕ) (lives : (q : ℕ) → q < 16 → IsLifeAt logs base q (starts q) (tops q)) where
  -- a cut with what the view has has just its restarts where it has no more entries than the members' lives
  pub within_same : (cut : Cut) → ((q : ℕ) → base q ≤ cut q) → ((q : ℕ) → q < 16 → cut q ≤ tops q) → SameRestarts logs base cut
  within_same cut under within i = (
    λ h. (h.0, h.1, (let x = h.2 in let u = under i.member in omega (arith, x, u))),
    λ h. (
      h.0,
      h.1,
      (let below = below_16 logs none_beyond i (Restart h.0) h.1 in let upto = within i.member below in let x = h.2 in
          ((lives i.member below).last i.number h.0 (omega (arith, x, upto)) h.1).1),
    ),
  )

  -- and it has no more where it has just these
  pub same_within : (cut : Cut) → ((q : ℕ) → cut q ≤ length (logs q)) → SameRestarts logs base cut → (q : ℕ) → q < 16 → cut q ≤ tops q
  same_within cut upto same q below = elim (cases_lt (tops q) (cut q)) [
    | inr fine ↦ fine
    | inl more ↦ absurd (
        let life = lives q below in
        let l = upto q in
        let next = life.next (omega (arith, more, l)) in
        let back = (same (at q (tops q))).1 (next.0, next.1, more) in
        let a = back.2 in let b = life.come in omega (arith, a, b))
  ]
