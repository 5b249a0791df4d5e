-- How the entries of different members are listed makes no difference, but for places.
use Rattle.fbl_judge.proofs.Common.{ℕ, ◌≡◌, ◌<◌, ◌≤◌, ◌⊎◌, ◌↔◌, inl, inr, sym, ap, subst, refl, ◌∙◌, arith, cases_lt, List, Option, Some, None, Determinant, Entry, Restart, Dependence, HappenedBefore, Logs, log_of, Position, Precedes, at, itself, step, Cut, HasRestarted, IsLeastDependent, SameRestarts, Stands, AreStruckOrHold, IsReceiptAt, IsSafe, Members, Run, last_cut, receipt_in}
use Rattle.std.proofs.lemmas.Bool.{cases_order}
use Rattle.std.proofs.Common.{true}
use Rattle.std.specs.FinSet as set
use Rattle.fbl_runs.specs.declared.judged.Judged.{Judged}
use Rattle.fbl_runs.specs.declared.judged.Judged.TheVariants.{AtEachMoment, AtItsEnd}
use Rattle.fbl_runs.specs.Clocks.{StandsAt, cut_of}
use Rattle.fbl_runs.specs.Logs.{RunParts, run_of}
use Rattle.fbl_runs.proofs.LeadsLaws.{same_position}
use Rattle.fbl_judge.specs.Laws.{IsSameEntry, OrderLaw, SaySame}
use Rattle.fbl_judge.specs.Unsafe.{ComesFirst, HasFewerRestarts, IsFewer, IsFirstCandidate, IsFirstDependent, IsLastRestart, IsLeftOrphanAt, IsNamed, IsSaidAt, IsSaidOf, IsUnsafe, RestartsFirst, restarts_at}
use Rattle.fbl_judge.specs.declared.check.UnsafeReceipt.{UnsafeReceipt}
use Rattle.fbl_judge.proofs.MomentLaws.{same_at}
use Rattle.fbl_judge.proofs.UnsafeLaws.{one_least, one_set, same_members, not_both}
use Rattle.fbl_judge.proofs.ViewLaws.{counts_apart}

-- ---- of two candidates each of which comes first

both_lists : (logs : Logs) (a b : Cut) → RestartsFirst logs a b → RestartsFirst logs b a → ⊥
both_lists logs a b ab ba = elim (cases_order ab.0 ba.0) [
  | inl same ↦ (let x = ab.1 in let y : restarts_at logs a ab.0 < restarts_at logs b ab.0 = subst (λ (m : ℕ). restarts_at logs a m < restarts_at logs b m) (sym same) ba.1 in omega (arith, x, y))
  | inr (inl less) ↦ (let x = ab.1 in let y = ba.2 ab.0 less in omega (arith, x, y))
  | inr (inr more) ↦ (let x = ba.1 in let y = ab.2 ba.0 more in omega (arith, x, y))
]

both_counts : (logs : Logs) (a b : Cut) → RestartsFirst logs a b ⊎ ((k : ℕ) → restarts_at logs a k ≡ restarts_at logs b k) → RestartsFirst logs b a ⊎ ((k : ℕ) → restarts_at logs b k ≡ restarts_at logs a k)
    → (k : ℕ) → restarts_at logs a k ≡ restarts_at logs b k
both_counts logs a b (inr same) ba k = same k
both_counts logs a b (inl ab) (inr same) k = sym (same k)
both_counts logs a b (inl ab) (inl ba) k = absurd (both_lists logs a b ab ba)

both_fewer : (logs : Logs) (a b : Cut) → HasFewerRestarts logs a b → HasFewerRestarts logs b a → (k : ℕ) → restarts_at logs a k ≡ restarts_at logs b k
both_fewer logs a b (inl ab) (inl ba) k = absurd (omega (arith, ab, ba))
both_fewer logs a b (inl ab) (inr ba) k = absurd (let e = ba.0 in omega (arith, ab, e))
both_fewer logs a b (inr ab) (inl ba) k = absurd (let e = ab.0 in omega (arith, ba, e))
both_fewer logs a b (inr ab) (inr ba) k = both_counts logs a b ab.1 ba.1 k

one_comes_first : (logs : Logs) (a b : Members) (p q : ℕ) (x y : Cut) → ComesFirst logs a p x b q y → ComesFirst logs b q y a p x → (a ≡ b) × (p ≡ q) × ((k : ℕ) → restarts_at logs x k ≡ restarts_at logs y k)
one_comes_first logs a b p q x y (inl ab) (inl ba) = absurd (not_both a b ab ba)
one_comes_first logs a b p q x y (inl ab) (inr ba) = absurd (let same = subst (λ (b : Members). IsFewer a b) ba.0 ab in not_both a a same same)
one_comes_first logs a b p q x y (inr ab) (inl ba) = absurd (let same = subst (λ (a : Members). IsFewer b a) ab.0 ba in not_both b b same same)
one_comes_first logs a b p q x y (inr ab) (inr ba) = (ab.0, (by_orphans ab.1 ba.1).0, (by_orphans ab.1 ba.1).1) where
  by_orphans : (p < q) ⊎ ((p ≡ q) × HasFewerRestarts logs x y) → (q < p) ⊎ ((q ≡ p) × HasFewerRestarts logs y x) → (p ≡ q) × ((k : ℕ) → restarts_at logs x k ≡ restarts_at logs y k)
  by_orphans (inl pq) (inl qp) = absurd (omega (arith, pq, qp))
  by_orphans (inl pq) (inr qp) = absurd (let e = qp.0 in omega (arith, pq, e))
  by_orphans (inr pq) (inl qp) = absurd (let e = pq.0 in omega (arith, qp, e))
  by_orphans (inr pq) (inr qp) = (pq.0, both_fewer logs x y pq.1 qp.1)

-- where as many restarts of each member have come they are the same
same_from_counts : (logs : Logs) (a b : Cut) → ((k : ℕ) → restarts_at logs a k ≡ restarts_at logs b k) → SameRestarts logs a b
same_from_counts logs a b same i = (
  λ h. (h.0, h.1, elim (cases_lt i.number (b i.member)) [ inl fine ↦ fine | inr out ↦ absurd (let x = same i.member in let y = counts_apart (logs i.member) (b i.member) (a i.member) i.number h.0 h.1 out h.2 in omega (arith, x, y)) ]),
  λ h. (h.0, h.1, elim (cases_lt i.number (a i.member)) [ inl fine ↦ fine | inr out ↦ absurd (let x = same i.member in let y = counts_apart (logs i.member) (a i.member) (b i.member) i.number h.0 h.1 out h.2 in omega (arith, x, y)) ]),
)

-- of one run the candidate that comes first is one
one_candidate : (run : Run) (i : Position) (d e : Determinant) (p q : ℕ) (a b : Cut) (s t : Members) → d ≡ e → IsFirstCandidate run i d p a s → IsFirstCandidate run i e q b t → (s ≡ t) × (p ≡ q) × (a ≡ b)
one_candidate run i d e p q a b s t name of_a of_b =
    let of_b' = subst (λ (d : Determinant). IsFirstCandidate run i d q b t) (sym name) of_b in
    let order = one_comes_first run.logs s t p q a b (of_a.first q b t of_b'.candidate) (of_b'.first p a s of_a.candidate) in
    let same = same_from_counts run.logs a b order.2 in
    let least = subst (λ (x : ℕ). IsLeastDependent run.logs i x a) order.1 of_a.candidate.moment in
    (order.0, order.1, one_least run.logs i q a b least of_b'.candidate.moment same)

-- ---- of two entries by which a moment is named

-- a member's first entry that depends is one
one_first : (run : Run) (i : Position) (cut : Cut) (j k : Position) → j.member ≡ k.member → IsFirstDependent run i cut j → IsFirstDependent run i cut k → j ≡ k
one_first run i cut j k member of_j of_k = elim (cases_order j.number k.number) [
  | inl same ↦ same_position j k member same
  | inr (inl before) ↦ absurd (not_before j k member of_j of_k before)
  | inr (inr after) ↦ absurd (not_before k j (sym member) of_k of_j after)
] where
  not_before : (j k : Position) → j.member ≡ k.member → IsFirstDependent run i cut j → IsFirstDependent run i cut k → j.number < k.number → ⊥
  not_before j k member of_j of_k before =
      let is : j ≡ at k.member j.number = same_position j (at k.member j.number) member refl in
      of_k.first j.number before (subst (λ (x : Position). Precedes Dependence run.logs i x) is of_j.depends) (subst (λ (x : Position). Stands run.logs cut x) is of_j.stands)

-- of one member's restarts one is the last
one_last : (run : Run) (cut : Cut) (j r s : Position) → r.member ≡ s.member → IsLastRestart run cut j r → IsLastRestart run cut j s → r ≡ s
one_last run cut j r s member of_r of_s = elim (cases_order r.number s.number) [
  | inl same ↦ same_position r s member same
  | inr (inl before) ↦ sym (of_r.last s of_s.come (before_it r s member of_r.come of_s.come before))
  | inr (inr after) ↦ of_s.last r of_r.come (before_it s r (sym member) of_s.come of_r.come after)
] where
  before_it : (r s : Position) → r.member ≡ s.member → HasRestarted run.logs cut r → HasRestarted run.logs cut s → r.number < s.number → Precedes HappenedBefore run.logs r s
  before_it r s member of_r of_s before = step (itself of_r.1) (inl (Restart of_r.0, Restart of_s.0, of_r.1, of_s.1, member, before))

one_named : (run : Run) (i : Position) (q : ℕ) (cut : Cut) (k l : Position) → IsNamed run i q cut k → IsNamed run i q cut l → k ≡ l
one_named run i q cut k l of_k of_l =
    let same : of_k.0 ≡ of_l.0 = one_first run i cut of_k.0 of_l.0 (of_k.1 ∙ sym of_l.1) of_k.2 of_l.2 in
    by_kind of_k.0 of_k.3 (subst (λ (j : Position). ((l ≡ j) × ((r : Position) → HasRestarted run.logs cut r → Precedes HappenedBefore run.logs r j)) ⊎ (IsLastRestart run cut j l × ((r : Position) → IsLastRestart run cut j r → l.member ≤ r.member))) (sym same) of_l.3) where
      by_kind : (j : Position) → ((k ≡ j) × ((r : Position) → HasRestarted run.logs cut r → Precedes HappenedBefore run.logs r j)) ⊎ (IsLastRestart run cut j k × ((r : Position) → IsLastRestart run cut j r → k.member ≤ r.member))
          → ((l ≡ j) × ((r : Position) → HasRestarted run.logs cut r → Precedes HappenedBefore run.logs r j)) ⊎ (IsLastRestart run cut j l × ((r : Position) → IsLastRestart run cut j r → l.member ≤ r.member)) → k ≡ l
      by_kind j (inl a) (inl b) = a.0 ∙ sym b.0
      by_kind j (inl a) (inr b) = absurd (b.0.after (a.1 l b.0.come))
      by_kind j (inr a) (inl b) = absurd (a.0.after (b.1 k a.0.come))
      by_kind j (inr a) (inr b) = one_last run cut j k l (let x = a.1 l b.0 in let y = b.1 k a.0 in omega (arith, x, y)) a.0 b.0

-- ---- two orders

module _ (run : RunParts) (others : List Entry) (logs : log_of run.entries ≡ log_of others) where
  -- the run with these logs
  abbrev with_logs : Logs → Run
  with_logs l = record { members = run.members; f = run.f; strike = run.strike; judged = run.judged; logs = l }

  abbrev other_run : RunParts
  other_run = record run { entries = others }

  one_name : (i : Position) (d e : Determinant) → IsReceiptAt (log_of run.entries) d i → IsReceiptAt (log_of run.entries) e i → d ≡ e
  one_name i d e at_d at_e =
      let same = same_at (log_of run.entries) i at_d.0 at_e.0 at_d.1 at_e.1 in
      (let names : Some d ≡ Some e = sym at_d.2 ∙ ap receipt_in same ∙ at_e.2 in cc)

  -- two that are said are said of one cut and one entry
  same_cut : (i : Position) (said other : UnsafeReceipt) → said.determinant ≡ other.determinant → (j : Judged) (o p : Option ℕ) → IsSaidAt run i said j o → IsSaidAt other_run i other j p
      → (cut_of said.moment ≡ cut_of other.moment) × IsSameEntry run.entries others o p
  same_cut i said other name AtItsEnd None None of_a of_b = (of_a.0 ∙ ap last_cut logs ∙ sym of_b.0, tt)
  same_cut i said other name AtEachMoment (Some o) (Some p) of_a of_b =
      let there = subst (λ (l : Logs). IsFirstCandidate (with_logs l) i other.determinant of_b.0 (cut_of other.moment) other.strike) (sym logs) of_b.1 in
      let one = one_candidate (run_of run) i said.determinant other.determinant of_a.0 of_b.0 (cut_of said.moment) (cut_of other.moment) said.strike other.strike name of_a.1 there in
      let named = subst (λ (l : Logs). IsNamed (with_logs l) i of_b.0 (cut_of other.moment) of_b.3.0) (sym logs) of_b.3.2 in
      let named' = subst (λ (x : ℕ). IsNamed (run_of run) i x (cut_of other.moment) of_b.3.0) (sym one.1) named in
      let named'' = subst (λ (x : Cut). IsNamed (run_of run) i of_a.0 x of_b.3.0) (sym one.2) named' in
      let same = one_named (run_of run) i of_a.0 (cut_of said.moment) of_a.3.0 of_b.3.0 of_a.3.2 named'' in
      (one.2, (of_b.3.0, subst (λ (j : Position). StandsAt run.entries o j) same of_a.3.1, of_b.3.1))
  same_cut i said other name AtItsEnd (Some o) p of_a of_b = absurd of_a
  same_cut i said other name AtItsEnd None (Some p) of_a of_b = absurd of_b
  same_cut i said other name AtEachMoment None p of_a of_b = absurd of_a
  same_cut i said other name AtEachMoment (Some o) None of_a of_b = absurd of_b

  say_same : (i : Position) (said other : UnsafeReceipt) → IsSaidOf run i said → IsSaidOf other_run i other → SaySame run.entries others said other
  say_same i said other of_a of_b =
      let receipt = subst (λ (l : Logs). IsReceiptAt l other.determinant i) (sym logs) of_b.receipt in
      let name = one_name i said.determinant other.determinant of_a.receipt receipt in
      let both = same_cut i said other name run.judged said.at other.at of_a.moment of_b.moment in
      let least = subst (λ (d : Determinant). AreStruckOrHold (run_of run) (cut_of said.moment) d other.strike) (sym name) (subst (λ (cut : Cut). AreStruckOrHold (run_of run) cut other.determinant other.strike) (sym both.0) (subst (λ (l : Logs). AreStruckOrHold (with_logs l) (cut_of other.moment) other.determinant other.strike) (sym logs) of_b.strike.least)) in
      let strike : said.strike ≡ other.strike = one_set (run_of run) (cut_of said.moment) said.determinant said.strike other.strike of_a.strike.least least in
      let P : Logs → Cut → Members → Type 0 = λ l cut s. (q : ℕ) → (set.contains other.orphans q ≡ true) ↔ IsLeftOrphanAt (with_logs l) cut s i q in
      let left = subst (P (log_of run.entries) (cut_of said.moment)) (sym strike) (subst (λ (cut : Cut). P (log_of run.entries) cut other.strike) (sym both.0) (subst (λ (l : Logs). P l (cut_of other.moment) other.strike) (sym logs) of_b.orphans)) in
      record {
        strike = strike;
        orphans = same_members (IsLeftOrphanAt (run_of run) (cut_of said.moment) said.strike i) said.orphans other.orphans of_a.orphans left;
        at = both.1;
      }

  pub of_order : (IsSafe (run_of run) ↔ IsSafe (run_of other_run)) × ((i : Position) → IsUnsafe (run_of run) i ↔ IsUnsafe (run_of other_run) i)
      × ((i : Position) (said other : UnsafeReceipt) → IsSaidOf run i said → IsSaidOf other_run i other → SaySame run.entries others said other)
  of_order =
      let P : Logs → Type 0 = λ l. IsSafe (with_logs l) in
      let Q : Position → Logs → Type 0 = λ i l. IsUnsafe (with_logs l) i in
      ((subst P logs, subst P (sym logs)), λ i. (subst (Q i) logs, subst (Q i) (sym logs)), say_same)

pub order_law : OrderLaw
order_law run others same = (let logs : log_of run.entries ≡ log_of others = λ i q. same q i in of_order run others logs)
