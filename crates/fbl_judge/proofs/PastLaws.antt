-- The past of an entry and its step: what they have, and their join with a moment that has their restarts.
use Rattle.fbl_judge.proofs.Common.{ℕ, cond, ◌≡◌, ◌≢◌, ◌==◌, ◌<◌, ◌≤◌, ◌⊎◌, ◌↔◌, inl, inr, List, max, Some, slice_get, length, sym, ap, subst, ◌∙◌, arith, nat_tests, cases_eq, cases_lt, slice_get_within}
use Rattle.fbl_judge.proofs.Common.{HappenedBefore, Entry, Restart, IsArrival, IsRecord, Logs, IsAt, Leads, Position, Precedes, at, itself, step, Cut, HasCome, HasRestarted, IsInStepOf, IsMoment}
use Rattle.fbl_runs.specs.declared.entry.Restart as restart
use Rattle.fbl_runs.specs.Indexes.{EndsStep}
use Rattle.fbl_runs.proofs.LeadsLaws.{same_position}
use Rattle.fbl_runs.proofs.ClockLaws.{Precedes-joined, first_there, leads_there}
use Rattle.fbl_judge.specs.Views.{IsPastAndStep}
use Rattle.fbl_judge.proofs.MomentLaws.{arrival_no_record, leaves, leaves_no_record, max_or, moment_closed, own_before, same_at, some_at, step_there, to_record}

-- a restart is no hold or store
pub restart_no_record : (logs : Logs) (i : Position) (r : restart.Restart) → IsAt logs i (Restart r) → ¬ ((e : Entry) × IsAt logs i e × IsRecord e)
restart_no_record logs i r here (e, here', record') = arrival_no_record (Restart r) tt (subst IsRecord (same_at logs i e (Restart r) here' here) record')

module _ (logs : Logs) (j : Position) (e : Entry) (here : IsAt logs j e) (arrives : IsArrival e) (cut : Cut) (of : IsPastAndStep logs j cut) where
  -- what leads to what has come has come
  pub past_consistent : (i k : Position) → Leads HappenedBefore logs i k → HasCome cut k → HasCome cut i
  past_consistent i k leads come = elim ((of k).0 come) [
    | inl p ↦ (of i).1 (inl (Precedes-joined (step (itself (leads_there HappenedBefore logs i k leads).0.1) leads) p))
    | inr in_step ↦
        let b = step_there logs j k in_step in
        let own = to_record logs i k b.0 b.1 b.2 leads in
        (of i).1 (elim (cases_lt j.number i.number) [
          | inl behind ↦ inr (in_step.0, in_step.1 ∙ sym own.4, behind, λ x after upto. in_step.3 x after (let less = own.5 in omega (arith, upto, less)))
          | inr before ↦ inl (own_before logs i j own.0 e (own.4 ∙ sym in_step.1) before own.2 here)
        ])
  ]

  -- a restart that has come is one that happened before the entry
  pub past_restart : (i : Position) → HasRestarted logs cut i → Precedes HappenedBefore logs i j
  past_restart i (r, at_i, come) = elim ((of i).0 come) [
    | inl p ↦ p
    | inr in_step ↦ absurd (restart_no_record logs i r at_i (step_there logs j i in_step))
  ]

  -- so what has come has its step, unless it is a restart of which the step may not have come
  pub past_whole : (i k : Position) → IsInStepOf logs i k → HasCome cut i → HasCome cut k ⊎ ((r : restart.Restart) × IsAt logs i (Restart r) × (i ≢ j))
  past_whole i k in_step come =
      let there = step_there logs i k in_step in
      elim ((of i).0 come) [
        | inr behind ↦
            let b = step_there logs j i behind in
            let a = in_step.0 in
            absurd (arrival_no_record a.0 a.2 (subst IsRecord (same_at logs i b.0 a.0 b.1 a.1) b.2))
        | inl p ↦ by_leaving there p (leaves p)
      ] where
        by_leaving : (e : Entry) × IsAt logs k e × IsRecord e → Precedes HappenedBefore logs i j
            → ((i.member ≡ j.member) × (i.number ≤ j.number))
            ⊎ ((t : Position) × (a : Entry) × IsAt logs t a × ((¬ (IsArrival a) × ¬ (IsRecord a)) ⊎ ((r : restart.Restart) × (a ≡ Restart r))) × (i.member ≡ t.member) × (i.number ≤ t.number) × Precedes HappenedBefore logs t j)
            → HasCome cut k ⊎ ((r : restart.Restart) × IsAt logs i (Restart r) × (i ≢ j))
        by_leaving there p (inl (same, behind)) = inl (elim (cases_eq i.number j.number) [
          | inl number ↦ (of k).1 (inr (subst (λ (x : Position). IsInStepOf logs x k) (same_position i j same number) in_step))
          | inr ne ↦ elim (cases_lt k.number j.number) [
            | inl before ↦ (of k).1 (inl (own_before logs k j there.0 e (sym in_step.1 ∙ same) (omega (arith, before)) there.1 here))
            | inr after ↦ absurd (
                let r = in_step.3 j.number (omega (arith, behind, ne)) after in
                let here' : IsAt logs (at i.member j.number) e = subst (λ (m : ℕ). IsAt logs (at m j.number) e) (sym same) here in
                arrival_no_record e arrives (subst IsRecord (same_at logs (at i.member j.number) r.0 e r.1 here') r.2))
          ]
        ])
        by_leaving there p (inr (t, a, at_t, kind, same, behind, q)) = elim (cases_eq i.number t.number) [
          | inr ne ↦ inl (elim (cases_lt k.number t.number) [
            | inl before ↦ (of k).1 (inl (Precedes-joined (own_before logs k t there.0 a (sym in_step.1 ∙ same) (omega (arith, before)) there.1 at_t) q))
            | inr after ↦ absurd (
                let r = in_step.3 t.number (omega (arith, behind, ne)) after in
                let at_t' : IsAt logs (at i.member t.number) a = subst (λ (m : ℕ). IsAt logs (at m t.number) a) (sym same) at_t in
                leaves_no_record a kind (subst IsRecord (same_at logs (at i.member t.number) r.0 a r.1 at_t') r.2))
          ])
          | inl number ↦
              let is : i ≡ t = same_position i t same number in
              let at_i : IsAt logs i a = subst (λ (x : Position). IsAt logs x a) (sym is) at_t in
              elim kind [
                | inl no' ↦ absurd (let x = in_step.0 in no'.0 (subst IsArrival (same_at logs i x.0 a x.1 at_i) x.2))
                | inr (r, is_restart) ↦ elim (same_or i j) [
                  | inl here' ↦ inl ((of k).1 (inr (subst (λ (x : Position). IsInStepOf logs x k) here' in_step)))
                  | inr ne ↦ inr (r, subst (λ (x : Entry). IsAt logs i x) is_restart at_i, ne)
                ]
              ]
        ] where
          same_or : (i j : Position) → (i ≡ j) ⊎ (i ≢ j)
          same_or i j = elim (cases_eq i.member j.member) [
            | inr ne ↦ inr (λ same. ne (ap (λ (x : Position). x.member) same))
            | inl m ↦ elim (cases_eq i.number j.number) [
              | inl k ↦ inl (same_position i j m k)
              | inr ne ↦ inr (λ same. ne (ap (λ (x : Position). x.number) same))
            ]
          ]

  -- a moment that has the entry has all of it
  pub past_within : (moment : Cut) → IsMoment logs moment → HasCome moment j → (i : Position) → HasCome cut i → HasCome moment i
  past_within moment is come i has = elim ((of i).0 has) [
    | inl p ↦ moment_closed moment is p come
    | inr in_step ↦ is.whole j i in_step come
  ]

  -- the entry has come
  pub past_has : HasCome cut j
  past_has = (of j).1 (inl (itself here))

  -- what has come is there
  pub past_there : (i : Position) → HasCome cut i → (a : Entry) × IsAt logs i a
  past_there i come = elim ((of i).0 come) [
    | inl p ↦ first_there p
    | inr in_step ↦ (let r = step_there logs j i in_step in (r.0, r.1))
  ]

  pub past_length : (q : ℕ) → cut q ≤ length (logs q)
  past_length q = elim (cases_lt (length (logs q)) (cut q)) [
    | inr fine ↦ fine
    | inl more ↦ absurd (let a = past_there (at q (length (logs q))) more in let below = slice_get_within (logs q) (length (logs q)) a.0 a.1 in omega (arith, below))
  ]

  -- with a moment that has the restarts of its past it makes a moment
  pub joined_moment : (base more : Cut) → IsMoment logs base → ((q : ℕ) → more q ≡ max (base q) (cut q)) → ((i : Position) → HasRestarted logs cut i → i ≢ j → HasCome base i) → IsMoment logs more
  joined_moment base more moment join has = record {
    consistent = λ i k leads come. elim (parts k come) [
      | inl x ↦ whole' i (inl (moment.consistent i k leads x))
      | inr x ↦ whole' i (inr (past_consistent i k leads x))
    ];
    whole = λ i k in_step come. elim (parts i come) [
      | inl x ↦ whole' k (inl (moment.whole i k in_step x))
      | inr x ↦ elim (past_whole i k in_step x) [
        | inl y ↦ whole' k (inr y)
        | inr (r, at_i, ne) ↦ whole' k (inl (moment.whole i k in_step (has i (r, at_i, x) ne)))
      ]
    ];
  } where
    parts : (i : Position) → HasCome more i → HasCome base i ⊎ HasCome cut i
    parts i come = (max_or (base i.member) (cut i.member) i.number).0 (subst (λ (x : ℕ). i.number < x) (join i.member) come)

    whole' : (i : Position) → HasCome base i ⊎ HasCome cut i → HasCome more i
    whole' i h = subst (λ (x : ℕ). i.number < x) (sym (join i.member)) ((max_or (base i.member) (cut i.member) i.number).1 h)

  -- it has what each has
  pub joined_parts : (base more : Cut) → ((q : ℕ) → more q ≡ max (base q) (cut q)) → (i : Position) → HasCome more i ↔ HasCome base i ⊎ HasCome cut i
  joined_parts base more join i = (
    λ come. (max_or (base i.member) (cut i.member) i.number).0 (subst (λ (x : ℕ). i.number < x) (join i.member) come),
    λ h. subst (λ (x : ℕ). i.number < x) (sym (join i.member)) ((max_or (base i.member) (cut i.member) i.number).1 h),
  )

  -- and a moment that has both has it
  pub joined_within : (base more other : Cut) → ((q : ℕ) → more q ≡ max (base q) (cut q)) → ((q : ℕ) → base q ≤ other q) → IsMoment logs other → HasCome other j → (q : ℕ) → more q ≤ other q
  joined_within base more other join under is come q = elim (cases_lt (other q) (more q)) [
    | inr fine ↦ fine
    | inl less ↦ absurd (elim ((joined_parts base more join (at q (other q))).0 less) [
      | inl x ↦ (let b = under q in omega (arith, b, x))
      | inr x ↦ (let y = past_within other is come (at q (other q)) x in omega (arith, y))
    ])
  ]

-- ---- the past and the step, from the past and the end of the step

-- behind an arrival the holds and stores up to the end of its step are just its step
pub step_of_end : (logs : Logs) (j : Position) (e : Entry) → IsAt logs j e → IsArrival e → (end : ℕ) → EndsStep (logs j.member) j.number end → (i : Position)
    → ((i.member ≡ j.member) × (i.number < end)) ↔ ((i.member ≡ j.member) × (i.number ≤ j.number)) ⊎ IsInStepOf logs j i
step_of_end logs j e here arrives end ends i = (
  λ h. elim (cases_lt j.number i.number) [
    | inr before ↦ inl (h.0, before)
    | inl behind ↦ inr ((e, here, arrives), sym h.0, behind, λ k after upto. ends.records k after (let x = h.1 in omega (arith, upto, x)))
  ],
  elim [
    | inl (same, before) ↦ (same, (let after = ends.after in omega (arith, before, after)))
    | inr in_step ↦ (
      sym in_step.1,
      elim (cases_lt i.number end) [
        | inl fine ↦ fine
        | inr past ↦ absurd (
            let r = in_step.3 end ends.after past in
            ends.last r.0 r.1 r.2)
      ],
    )
  ],
)

pub past_and_step_of : (logs : Logs) (j : Position) (e : Entry) → IsAt logs j e → IsArrival e → (end : ℕ) → EndsStep (logs j.member) j.number end → (past cut : Cut)
    → ((i : Position) → HasCome past i ↔ Precedes HappenedBefore logs i j) → ((q : ℕ) → cut q ≡ max (past q) (cond (q == j.member) end 0)) → IsPastAndStep logs j cut
past_and_step_of logs j e here arrives end ends past cut is counts i = (
  λ come. elim (both.0 (subst (λ (x : ℕ). i.number < x) (counts i.member) come)) [
    | inl x ↦ inl ((is i).0 x)
    | inr x ↦ elim ((step_of_end logs j e here arrives end ends i).0 (own.0 x)) [
      | inr in_step ↦ inr in_step
      | inl (same, before) ↦ inl (
          let b = there (logs i.member) i.number (let w = slice_get_within (logs j.member) j.number e here in let l = ap (λ (m : ℕ). length (logs m)) same in omega (arith, w, l, before)) in
          own_before logs i j b.0 e same before b.1 here)
    ]
  ],
  λ h. subst (λ (x : ℕ). i.number < x) (sym (counts i.member)) (both.1 (elim h [
    | inl p ↦ inl ((is i).1 p)
    | inr in_step ↦ inr (own.1 ((step_of_end logs j e here arrives end ends i).1 (inr in_step)))
  ])),
) where
  both : (i.number < max (past i.member) (cond (i.member == j.member) end 0)) ↔ (i.number < past i.member) ⊎ (i.number < cond (i.member == j.member) end 0)
  both = max_or (past i.member) (cond (i.member == j.member) end 0) i.number

  own : (i.number < cond (i.member == j.member) end 0) ↔ (i.member ≡ j.member) × (i.number < end)
  own = grind (arith, nat_tests)

  there : (log : List Entry) (k : ℕ) → k < length log → (b : Entry) × (slice_get log k ≡ Some b)
  there log k within = some_at log k (omega (arith, within))
