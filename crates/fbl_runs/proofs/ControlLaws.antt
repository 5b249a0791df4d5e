-- Control messages: each is told once, and before anybody is told it.
use Rattle.fbl_runs.proofs.Common.{ℕ, Bool, true, false, cond, ◌≡◌, ◌==◌, ◌&&◌, ◌<◌, ◌≤◌, ◌↔◌, ◌⊎◌, ◌∙◌, inl, inr, List, [], ◌∷◌, ◌++◌, length, take, drop, Some, slice_get, refl, sym, ap, arith}
use Rattle.fbl_runs.proofs.Common.{cases_order, At-front, At-push, At-seam, slice_get-take, slice_get_within, take-append-drop, length-take, eqb-true, eqb-self, false≢true}
use Rattle.fbl_runs.proofs.Common.{Entry, Tell, Told, ControlMessage, log_of, IsAt, at}
use Rattle.std.proofs.lemmas.Bool.{and_parts}
use Rattle.fbl_trace.specs.Configs.{IsFirstBreach}
use Rattle.fbl_runs.specs.declared.fault.ControlFault.{ControlFault}
use Rattle.fbl_runs.specs.declared.fault.ControlRule.{ControlRule}
use Rattle.fbl_runs.specs.declared.fault.ControlRule.TheVariants.{NotTold, Outside, SameNumber, ToItself, ToldBefore}
use Rattle.fbl_runs.specs.ControlMessages.{AreTold, BreaksControl, Has, IsFirstUntold, IsToldAt, MayBeTold, same_control}
use Rattle.fbl_runs.proofs.Listing.{one_place}

pub has_more : (before : List Entry) (e x : Entry) → Has (before ++ e ∷ []) x ↔ Has before x ⊎ (e ≡ x)
has_more before e x = (
  λ h. elim (At-push before e h.0 x h.1) [ inl old ↦ inl (h.0, old) | inr new ↦ inr new.1 ],
  elim [ inl h ↦ (h.0, At-front before (e ∷ []) h.0 x h.1) | inr same ↦ (length before, At-seam before e [] ∙ ap Some same) ],
)

pub same_control-true : (a b : ControlMessage) → same_control a b ≡ true → a ≡ b
same_control-true a b is =
    let parts = and_parts (a.from == b.from) (a.to == b.to && a.id == b.id) is in
    let rest = and_parts (a.to == b.to) (a.id == b.id) parts.1 in
    let from = eqb-true a.from b.from parts.0 in
    let to = eqb-true a.to b.to rest.0 in
    let id = eqb-true a.id b.id rest.1 in
    λ i. record { from = from i; to = to i; id = id i }

pub same_control-self : (a : ControlMessage) → same_control a a ≡ true
same_control-self a = rw (eqb-self a.from, eqb-self a.to, eqb-self a.id) refl

-- ---- a pass

-- a set with one message more has that and what it had
abbrev pub Gains : (old new : ControlMessage → Bool) → ControlMessage → Type 0
Gains old new m = (k : ControlMessage) → (new k ≡ true) ↔ (old k ≡ true) ⊎ (m ≡ k)

pub gains : (old new : ControlMessage → Bool) (m : ControlMessage) → ((k : ControlMessage) → new k ≡ cond (same_control m k) true (old k)) → Gains old new m
gains old new m writes k = by_test (same_control m k) refl where
  by_test : (b : Bool) → same_control m k ≡ b → (new k ≡ true) ↔ (old k ≡ true) ⊎ (m ≡ k)
  by_test true same = (λ h. inr (same_control-true m k same), λ h. writes k ∙ ap (λ b. cond b true (old k)) same)
  by_test false other =
      let kept : new k ≡ old k = writes k ∙ ap (λ b. cond b true (old k)) other in (
        λ h. inl (sym kept ∙ h),
        elim [ inl h ↦ kept ∙ h | inr same ↦ absurd (false≢true (sym other ∙ ap (same_control m) (sym same) ∙ same_control-self m)) ],
      )

-- so it is where the entry says the message
pub gains_said : (say : ControlMessage → Entry) → ((a b : ControlMessage) → say a ≡ say b → a ≡ b) → (e : Entry) (m : ControlMessage) → e ≡ say m → (old new : ControlMessage → Bool)
    → ((k : ControlMessage) → new k ≡ cond (same_control m k) true (old k)) → (k : ControlMessage) → (new k ≡ true) ↔ (old k ≡ true) ⊎ (e ≡ say k)
gains_said say one e m is old new writes k =
    let g = gains old new m writes k in (
      λ h. elim (g.0 h) [ inl x ↦ inl x | inr same ↦ inr (is ∙ ap say same) ],
      λ h. g.1 (elim h [ inl x ↦ inl x | inr said ↦ inr (one m k (sym is ∙ said)) ]),
    )

-- and where it says none
pub gains_none : (say : ControlMessage → Entry) (e : Entry) → ((k : ControlMessage) → ¬ (e ≡ say k)) → (old : ControlMessage → Bool) (k : ControlMessage) → (old k ≡ true) ↔ (old k ≡ true) ⊎ (e ≡ say k)
gains_none say e none old k = (λ h. inl h, elim [ inl h ↦ h | inr said ↦ absurd (none k said) ])

-- a tell is no told, and each says one message
pub one_said_tell : (a b : ControlMessage) → Tell a ≡ Tell b → a ≡ b
one_said_tell a b same = cc

pub one_said_told : (a b : ControlMessage) → Told a ≡ Told b → a ≡ b
one_said_told a b same = cc

pub tell_no_told : (e : Entry) (m : ControlMessage) → e ≡ Tell m → (k : ControlMessage) → ¬ (e ≡ Told k)
tell_no_told e m is k said = (let both : Tell m ≡ Told k = sym is ∙ said in cc)

pub told_no_tell : (e : Entry) (m : ControlMessage) → e ≡ Told m → (k : ControlMessage) → ¬ (e ≡ Tell k)
told_no_tell e m is k said = (let both : Told m ≡ Tell k = sym is ∙ said in cc)

-- the entry is told, and known behind it
pub told_more : (before : List Entry) (e : Entry) (say : ControlMessage → Entry) (old new : ControlMessage → Bool)
    → ((k : ControlMessage) → (old k ≡ true) ↔ Has before (say k)) → ((k : ControlMessage) → (new k ≡ true) ↔ (old k ≡ true) ⊎ (e ≡ say k))
    → (k : ControlMessage) → (new k ≡ true) ↔ Has (before ++ e ∷ []) (say k)
told_more before e say old new has gains k = (
  λ h. (has_more before e (say k)).1 (elim ((gains k).0 h) [ inl x ↦ inl ((has k).0 x) | inr x ↦ inr x ]),
  λ h. (gains k).1 (elim ((has_more before e (say k)).0 h) [ inl x ↦ inl ((has k).1 x) | inr x ↦ inr x ]),
)

-- ---- the rules

module _ (n : ℕ) (entries : List Entry) (told : AreTold n entries) where
  -- no message is told twice
  not_again : (p q : ℕ) (m : ControlMessage) → slice_get entries p ≡ Some (Tell m) → slice_get entries q ≡ Some (Tell m) → p < q → ⊥
  not_again p q m at_p at_q before = (told q (Tell m) at_q).1 (p, slice_get-take entries q p (Tell m) before at_p)

  pub tell_once : (p q : ℕ) (m : ControlMessage) → slice_get entries p ≡ Some (Tell m) → slice_get entries q ≡ Some (Tell m) → p ≡ q
  tell_once p q m at_p at_q = elim (cases_order p q) [
    | inl same ↦ same
    | inr (inl below) ↦ absurd (not_again p q m at_p at_q below)
    | inr (inr above) ↦ absurd (not_again q p m at_q at_p above)
  ]

  -- one tell stands at one position
  pub one_tell : (p k q l : ℕ) (m : ControlMessage) → IsAt (log_of entries) (at p k) (Tell m) → IsAt (log_of entries) (at q l) (Tell m) → (p ≡ q) × (k ≡ l)
  one_tell p k q l m at_p at_q = one_place entries p k q l (Tell m) (λ a b. tell_once a b m) at_p at_q

  -- what a member is told is told before
  pub told_before : (p : ℕ) (m : ControlMessage) → slice_get entries p ≡ Some (Told m) → (q : ℕ) × (q < p) × (slice_get entries q ≡ Some (Tell m))
  told_before p m here =
      let sent = (told p (Told m) here).0 in
      let below = slice_get_within (take p entries) sent.0 (Tell m) sent.1 in
      (sent.0, omega (arith, below, length-take p entries), (rw take-append-drop at (At-front (take p entries) (drop p entries) sent.0 (Tell m) sent.1)))

-- past the last entry none breaks a rule
pub told_all : (n : ℕ) (entries : List Entry) (p : ℕ) → length entries ≤ p → ((i : ℕ) → i < p → IsToldAt n entries i) → AreTold n entries
told_all n entries p all good i e here = good i (let w = slice_get_within entries i e here in omega (arith, w, all)) e here

-- an entry that breaks a rule does not obey them
pub breaks_control : (n : ℕ) (before : List Entry) (e : Entry) (rule : ControlRule) → BreaksControl n before e rule → ¬ (MayBeTold n before e)
breaks_control n before (Tell m) (Outside outsider) broken may = elim broken [
  | inl from ↦ (let b = may.0.0 in let o = from.2 in omega (arith, b, o))
  | inr to ↦ (let b = may.0.1 in let o = to.1.2 in omega (arith, b, o))
]
breaks_control n before (Tell m) ToItself broken may = may.0.2 broken.2
breaks_control n before (Tell m) SameNumber broken may = may.1 broken.1
breaks_control n before (Told m) NotTold broken may = broken may.0
breaks_control n before (Told m) ToldBefore broken may = may.1 broken.1
breaks_control n before e rule broken may = broken

-- so the first one that is found is the first that does not
pub first_untold_breach : (n : ℕ) (entries : List Entry) (fault : ControlFault) → IsFirstUntold n entries fault → IsFirstBreach (IsToldAt n entries) fault.place
first_untold_breach n entries fault bad = (bad.0, λ told. breaks_control n (take fault.place entries) fault.entry fault.rule bad.2 (told fault.entry bad.1))
