use Rattle.fbl_runs.proofs.Common.{ℕ, ◌≡◌, ◌<◌, ◌≤◌, ◌+◌, ◌∙◌, ◌↔◌, ◌⊎◌, arith, cases_lt, Determinant, Entry, false≢true, inl, inr, length, List, log_of, max, nat_tests, receipt_in, refl, slice_get, slice_get_read, Some, subst, sym}
use Rattle.std.proofs.Common.{nat_cmp}
use Rattle.std.specs.Ordering.{ord_max}
use Rattle.fbl_runs.specs.declared.lives.StandingEvent.{StandingEvent}
use Rattle.fbl_runs.proofs.DueLaws.{ReachesAmong, reached_iff, same_iff}
use Rattle.fbl_runs.proofs.life_rules.first_unreached.Goals as goal
use Rattle.fbl_runs.proofs.life_rules.first_unreached.Goals.{in-Some+then-eq, in-Some+else-eq, in_default}

-- the entry is a receipt of a message of the member whose number is at least this
abbrev Reaches : ℕ → ℕ → Entry → Type 0
Reaches from ssn e = (d : Determinant) × (receipt_in e ≡ Some d) × (d.from ≡ from) × (ssn ≤ d.ssn)

-- one event more
reaches_more : (from ssn old new : ℕ) (events : List StandingEvent) (n : ℕ) (e : StandingEvent) → slice_get events n ≡ Some e → ReachesAmong from ssn events n ↔ (ssn < old)
    → (ssn < new) ↔ ((ssn < old) ⊎ Reaches from ssn e.entry) → ReachesAmong from ssn events (n + 1) ↔ (ssn < new)
reaches_more from ssn old new events n e here before own = (
  λ r. own.1 (elim (cases_lt r.0 n) [
    | inl early ↦ inl (before.0 (r.0, r.1, r.2, early, r.4, r.5, r.6, r.7))
    | inr late ↦
        let last : r.0 ≡ n = (let within = r.3 in omega (arith, late, within)) in
        let same : r.1 ≡ e = (let some : Some r.1 ≡ Some e = sym r.4 ∙ subst (λ (i : ℕ). slice_get events i ≡ Some e) (sym last) here in cc) in
        inr (r.2, subst (λ (e : StandingEvent). receipt_in e.entry ≡ Some r.2) same r.5, r.6, r.7)
  ]),
  λ below. elim (own.0 below) [
    | inl early ↦ (let r = before.1 early in (r.0, r.1, r.2, (let within = r.3 in omega (arith, within)), r.4, r.5, r.6, r.7))
    | inr d ↦ (n, e, d.0, omega arith, here, d.1, d.2, d.3)
  ],
)

greater : (a x : ℕ) → ord_max nat_cmp a x ≡ max a x
greater a x = grind (arith, nat_tests)

below_max : (a b k : ℕ) → (k < max a (b + 1)) ↔ ((k < a) ⊎ (k ≤ b))
below_max a b k = grind arith

pub loop-event-preserved : goal.loop-event-preserved
loop-event-preserved c ssn =
    let from = c.args.from in
    let events = c.standing-event-items.result.now in
    let i = c.loop-event.event-index in
    let e = c.event-item.result in
    let old = c.loop-event.end in
    let new = c.match-receipt.end in
    let here : slice_get events i ≡ Some e = slice_get_read events (length events) i e refl c.loop-event-test.true c.event-item.is in
    let own : (ssn < new) ↔ ((ssn < old) ⊎ Reaches from ssn e.entry) = elim c.match-receipt.branch [
      | in-Some+then-eq w ↦
          let d : Determinant = w.in-Some.receipt in
          let is : receipt_in e.entry ≡ Some d = sym c.receipt.ensures ∙ w.in-Some.is in
          let same : d.from ≡ from = (same_iff d.from from).0 (sym w.eq.ensures ∙ w.if-eq.true) in
          let end : new ≡ max old (d.ssn + 1) = w.end-is ∙ w.max-end.ensures ∙ greater old (d.ssn + 1) in
          let more = below_max old d.ssn ssn in (
            λ below. elim (more.0 (subst (λ (n : ℕ). ssn < n) end below)) [ inl early ↦ inl early | inr within ↦ inr (d, is, same, within) ],
            λ either. subst (λ (n : ℕ). ssn < n) (sym end) (more.1 (elim either [
              | inl early ↦ inl early
              | inr r ↦
                  let equal : r.0 ≡ d = (let some : Some r.0 ≡ Some d = sym r.1 ∙ is in cc) in
                  inr (subst (λ (d : Determinant). ssn ≤ d.ssn) equal r.3)
            ])),
          )
      | in-Some+else-eq w ↦
          let d : Determinant = w.in-Some.receipt in
          let is : receipt_in e.entry ≡ Some d = sym c.receipt.ensures ∙ w.in-Some.is in (
            λ below. inl (subst (λ (n : ℕ). ssn < n) w.end-is below),
            λ either. elim either [
              | inl early ↦ subst (λ (n : ℕ). ssn < n) (sym w.end-is) early
              | inr r ↦
                  let equal : r.0 ≡ d = (let some : Some r.0 ≡ Some d = sym r.1 ∙ is in cc) in
                  let from_it : d.from ≡ from = subst (λ (d : Determinant). d.from ≡ from) equal r.2 in
                  absurd (false≢true (sym w.if-eq.false ∙ w.eq.ensures ∙ (same_iff d.from from).1 from_it))
            ],
          )
      | in_default w ↦ (
        λ below. inl (subst (λ (n : ℕ). ssn < n) w.end-is below),
        λ either. elim either [
          | inl early ↦ subst (λ (n : ℕ). ssn < n) (sym w.end-is) early
          | inr r ↦ absurd (w.in_default.not-Some r.0 (c.receipt.ensures ∙ r.1))
        ],
      )
    ] in
    reaches_more from ssn old new events i e here (c.loop-event.invariant ssn) own

pub returns : goal.returns
returns c before has ssn =
    let events = c.standing-event-items.result.now in
    let reached = reached_iff (log_of before) c.args.from c.args.to ssn events c.loop-event.event-index (c.standing-event-items.ensures before has) c.loop-event-test.false in
    let known = c.loop-event.invariant ssn in
    (λ is. known.0 (reached.1 is), λ below. reached.0 (known.1 below))
