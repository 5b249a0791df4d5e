-- Moments: what precedes an entry has come with it, their meet and their join, and what holds at moments with the same restarts.
use Rattle.fbl_judge.proofs.Common.{ℕ, zero, suc, ◌≡◌, ◌<◌, ◌≤◌, ◌+◌, ◌⊎◌, ◌↔◌, inl, inr, List, [], ◌∷◌, max, Some, None, slice_get, length, refl, sym, ap, subst, ◌∙◌, arith, cases_eq, slice_get_within}
use Rattle.fbl_judge.proofs.Common.{Determinant, Mark, Receipt, Send, send_of, Dependence, HappenedBefore, Entry, Event, Hold, LaterReceipt, Restart, Store, Tell, Told, IsArrival, IsRecord, Logs, mark_in, recorded_in}
use Rattle.fbl_judge.proofs.Common.{IsAt, IsEarlier, Leads, Position, Precedes, at, itself, step, StandsBehind, Cut, DependsAt, HasCome, HasRestarted, HoldsAt, IsInStepOf, IsMoment, IsStoredAt, Stands, last_cut}
use Rattle.fbl_runs.specs.declared.entry.Restart as restart
use Rattle.std.proofs.Common.{min}
use Rattle.fbl_runs.proofs.LeadsLaws.{same_position}
use Rattle.fbl_runs.proofs.ClockLaws.{last_there, leads_there}

-- ---- paths

-- dependence is by what happened before
pub happened : {logs : Logs} {i j : Position} → Precedes Dependence logs i j → Precedes HappenedBefore logs i j
happened (itself h) = itself h
happened (step p (inl stood)) = step (happened p) (inl stood.0)
happened (step p (inr carries)) = step (happened p) (inr (inl carries))

-- one entry stands at a position
pub same_at : (logs : Logs) (i : Position) (a b : Entry) → IsAt logs i a → IsAt logs i b → a ≡ b
same_at logs i a b at_a at_b = (let same : Some a ≡ Some b = sym at_a ∙ at_b in cc)

-- a member's entry happened before its later ones
pub own_before : (logs : Logs) (i k : Position) (a b : Entry) → i.member ≡ k.member → i.number ≤ k.number → IsAt logs i a → IsAt logs k b → Precedes HappenedBefore logs i k
own_before logs i k a b same behind at_i at_k = elim (cases_eq i.number k.number) [
  | inl number ↦ subst (λ (x : Position). Precedes HappenedBefore logs i x) (same_position i k same number) (itself at_i)
  | inr ne ↦ step (itself at_i) (inl (a, b, at_i, at_k, same, omega (arith, behind, ne)))
]

-- ---- kinds of entries

pub no_record : (e : Entry) → recorded_in e ≡ None → ¬ (IsRecord e)
no_record e none record' = (let some : None ≡ Some record'.0 = sym none ∙ record'.1 in cc)

pub arrival_no_record : (a : Entry) → IsArrival a → ¬ (IsRecord a)
arrival_no_record (Tell m) arrives = absurd arrives
arrival_no_record (Hold q d) arrives = absurd arrives
arrival_no_record (Store q d) arrives = absurd arrives
arrival_no_record e arrives = no_record e refl

-- a mark is no hold or store
mark_no_record : (b : Entry) (r : Mark) → mark_in b ≡ Some r → ¬ (IsRecord b)
mark_no_record (Event m) r is = no_record (Event m) refl
mark_no_record (LaterReceipt d life) r is = no_record (LaterReceipt d life) refl
mark_no_record e r is = absurd cc

send_no_arrival : (s r : Mark) → send_of r ≡ Some s → ¬ (IsArrival (Event s))
send_no_arrival s (Send from ssn to) takes arrives = cc
send_no_arrival s (Receipt to rsn from ssn) takes arrives = (let is : Send from ssn to ≡ s = cc in subst (λ (x : Mark). IsArrival (Event x)) (sym is) arrives)

-- what leads to a hold or a store is of its member
pub to_record : (logs : Logs) (i k : Position) (b : Entry) → IsAt logs k b → IsRecord b → Leads HappenedBefore logs i k → IsEarlier logs i k
to_record logs i k b here record' (inl own) = own
to_record logs i k b here record' (inr (inl carries)) = absurd (mark_no_record carries.2 carries.1 carries.5 (subst IsRecord (same_at logs k b carries.2 here carries.4) record'))
to_record logs i k b here record' (inr (inr (inl tells))) = absurd (no_record (Told tells.0) refl (subst IsRecord (same_at logs k b (Told tells.0) here tells.2) record'))
to_record logs i k b here record' (inr (inr (inr begins))) = absurd (no_record (LaterReceipt begins.1 begins.0.life) refl (subst IsRecord (same_at logs k b (LaterReceipt begins.1 begins.0.life) here begins.3) record'))

-- it is a send or a tell, or a restart: what leads to entries of others
abbrev pub Leaves : Entry → Type 0
Leaves a = (¬ (IsArrival a) × ¬ (IsRecord a)) ⊎ ((r : restart.Restart) × (a ≡ Restart r))

pub leaves_no_record : (a : Entry) → Leaves a → ¬ (IsRecord a)
leaves_no_record a (inl no') = no'.1
leaves_no_record a (inr (r, is)) = no_record a (ap recorded_in is)

-- a path stays in one log, or leaves it by a message
pub leaves : {logs : Logs} {i j : Position} → Precedes HappenedBefore logs i j
    → ((i.member ≡ j.member) × (i.number ≤ j.number))
    ⊎ ((t : Position) × (a : Entry) × IsAt logs t a × Leaves a × (i.member ≡ t.member) × (i.number ≤ t.number) × Precedes HappenedBefore logs t j)
leaves (itself h) = inl (refl, omega arith)
leaves {logs} {i} (step {j = u} {k} p leads) = elim (leaves p) [
  | inr (t, a, is, kind, same, behind, q) ↦ inr (t, a, is, kind, same, behind, step q leads)
  | inl (same, behind) ↦ by_step u k leads same behind
] where
  by_step : (u k : Position) → Leads HappenedBefore logs u k → i.member ≡ u.member → i.number ≤ u.number
      → ((i.member ≡ k.member) × (i.number ≤ k.number))
      ⊎ ((t : Position) × (a : Entry) × IsAt logs t a × Leaves a × (i.member ≡ t.member) × (i.number ≤ t.number) × Precedes HappenedBefore logs t k)
  by_step u k (inl own) same behind = inl (same ∙ own.4, (let less = own.5 in omega (arith, behind, less)))
  by_step u k (inr (inl carries)) same behind =
      inr (u, Event carries.0, carries.3, inl (send_no_arrival carries.0 carries.1 carries.6, no_record (Event carries.0) refl), same, behind, step (itself carries.3) (inr (inl carries)))
  by_step u k (inr (inr (inl tells))) same behind =
      inr (u, Tell tells.0, tells.1, inl (λ no'. no', no_record (Tell tells.0) refl), same, behind, step (itself tells.1) (inr (inr (inl tells))))
  by_step u k (inr (inr (inr begins))) same behind =
      inr (u, Restart begins.0, begins.2, inr (begins.0, refl), same, behind, step (itself begins.2) (inr (inr (inr begins))))

-- ---- moments

-- a moment has all that precede what has come
pub moment_closed : {logs : Logs} {i j : Position} (cut : Cut) → IsMoment logs cut → Precedes HappenedBefore logs i j → HasCome cut j → HasCome cut i
moment_closed cut moment (itself h) come = come
moment_closed cut moment (step {j} {k} p leads) come = moment_closed cut moment p (moment.consistent j k leads come)

-- the entry of a step is there
pub step_there : (logs : Logs) (i k : Position) → IsInStepOf logs i k → (e : Entry) × IsAt logs k e × IsRecord e
step_there logs i k in_step = (let r = in_step.3 k.number in_step.2 (omega arith) in (let P : ℕ → Type 0 = λ m. (e : Entry) × IsAt logs (at m k.number) e × IsRecord e in subst P in_step.1 r))

pub last_is_moment : (logs : Logs) → IsMoment logs (last_cut logs)
last_is_moment logs = record {
  consistent = λ i j leads come. (let a = (leads_there HappenedBefore logs i j leads).0 in slice_get_within (logs i.member) i.number a.0 a.1);
  whole = λ i j step come. (let e = step_there logs i j step in slice_get_within (logs j.member) j.number e.0 e.1);
}

-- of two moments the lesser counts are a moment
abbrev pub meet : Cut → Cut → Cut
meet a b q = min (a q) (b q)

pub min_and : (a b k : ℕ) → (k < min a b) ↔ (k < a) × (k < b)
min_and a b k = grind arith

pub meet_moment : (logs : Logs) (a b : Cut) → IsMoment logs a → IsMoment logs b → IsMoment logs (meet a b)
meet_moment logs a b of_a of_b = record {
  consistent = λ i j leads come. (let both = (min_and (a j.member) (b j.member) j.number).0 come in
      (min_and (a i.member) (b i.member) i.number).1 (of_a.consistent i j leads both.0, of_b.consistent i j leads both.1));
  whole = λ i j step come. (let both = (min_and (a i.member) (b i.member) i.number).0 come in
      (min_and (a j.member) (b j.member) j.number).1 (of_a.whole i j step both.0, of_b.whole i j step both.1));
}

-- the counts up to the ends of the logs are one too
pub within_moment : (logs : Logs) (cut : Cut) → IsMoment logs cut → IsMoment logs (meet cut (last_cut logs))
within_moment logs cut moment = meet_moment logs cut (last_cut logs) moment (last_is_moment logs)

pub max_or : (a b k : ℕ) → (k < max a b) ↔ (k < a) ⊎ (k < b)
max_or a b k = grind arith

-- ---- what stands

-- less stands behind more entries
pub stands_less : (log : List Entry) (k x y : ℕ) → k < x → x ≤ y → StandsBehind log k y → StandsBehind log k x
stands_less log k x y below within stands = (below, λ number r after before here. stands.1 number r after (omega (arith, before, within)) here)

-- an entry stands where no restart has come since
pub stands_on : (log : List Entry) (k x : ℕ) → k < x → ((number : ℕ) (r : restart.Restart) → k < number → number < x → ¬ (slice_get log number ≡ Some (Restart r))) → StandsBehind log k x
stands_on log k x below none = (below, λ number r after before here. absurd (none number r after before here))

-- the last entry stands
pub last_stands : (log : List Entry) (k : ℕ) → StandsBehind log k (suc k)
last_stands log k = stands_on log k (suc k) (omega arith) (λ number r after before here. omega (arith, after, before))

-- at a moment with as many or more entries, and no more restarts, what stood stands
pub stands_later : (logs : Logs) (early late : Cut) → ((q : ℕ) → early q ≤ late q) → ((i : Position) → HasRestarted logs late i → HasRestarted logs early i) → (i : Position) → Stands logs early i → Stands logs late i
stands_later logs early late before same i stands =
    let upto = before i.member in
    let below = stands.0 in (
      omega (arith, upto, below),
      λ number r after come here. stands.1 number r after (same (at i.member number) (r, here, come)).2 here,
    )

-- and at one with fewer entries, at which it has come, it stood
pub stands_earlier : (logs : Logs) (early late : Cut) → ((q : ℕ) → early q ≤ late q) → (i : Position) → HasCome early i → Stands logs late i → Stands logs early i
stands_earlier logs early late before i come stands = stands_less (logs i.member) i.number (early i.member) (late i.member) come (before i.member) stands

pub holds_later : (logs : Logs) (early late : Cut) → ((q : ℕ) → early q ≤ late q) → ((i : Position) → HasRestarted logs late i → HasRestarted logs early i) → (d : Determinant) (q : ℕ) → HoldsAt logs early d q → HoldsAt logs late d q
holds_later logs early late before same d q holds = (holds.0, holds.1, stands_later logs early late before same (at q holds.0) holds.2)

pub stored_later : (logs : Logs) (early late : Cut) → ((q : ℕ) → early q ≤ late q) → (d : Determinant) → IsStoredAt logs early d → IsStoredAt logs late d
stored_later logs early late before d h = (h.0, h.1, h.2, (let b = before h.0 in let x = h.3 in omega (arith, b, x)))

-- ---- dependence at a moment

pub some_at : (log : List Entry) (l : ℕ) → suc l ≤ length log → (b : Entry) × (slice_get log l ≡ Some b)
some_at [] l within = absurd (omega (arith, within))
some_at (x ∷ xs) zero within = (x, refl)
some_at (x ∷ xs) (suc l) within = some_at xs l (omega (arith, within))

-- a member depends on a receipt exactly where its last entry that has come does
pub depends_last : (logs : Logs) (cut : Cut) (i : Position) (q l : ℕ) → cut q ≡ suc l → suc l ≤ length (logs q) → DependsAt logs cut i q ↔ Precedes Dependence logs i (at q l)
depends_last logs cut i q l last within = (
  λ depends. elim (cases_eq depends.0 l) [
    | inl same ↦ subst (λ (k : ℕ). Precedes Dependence logs i (at q k)) same depends.1
    | inr ne ↦
        let a = last_there depends.1 in
        let b = some_at (logs q) l within in
        let below = depends.2.0 in
        step depends.1 (inl ((a.0, b.0, a.1, b.1, refl, omega (arith, below, last, ne)), subst (λ (x : ℕ). StandsBehind (logs q) depends.0 x) (let e : cut q ≡ l + 1 = omega (arith, last) in e) depends.2))
  ],
  λ p. (l, p, subst (λ (x : ℕ). StandsBehind (logs q) l x) (sym last) (last_stands (logs q) l)),
)
