-- Where the entries of a list stand in the members' logs.
use Rattle.fbl_runs.proofs.Common.{ℕ, zero, suc, true, false, cond, ◌≡◌, ◌≢◌, ◌==◌, ◌<◌, ◌≤◌, ◌+◌, inl, inr, List, [], ◌∷◌, ◌++◌, length, take, drop, Some, slice_get}
use Rattle.fbl_runs.proofs.Common.{refl, sym, ap, subst, ◌∙◌, arith, nat_tests, cases_eq, append-nil, length-append, length-take, filter-append}
use Rattle.fbl_runs.proofs.Common.{At-front, At-seam, slice_get-take, slice_get_within, take-more, take-append-drop, take_all}
use Rattle.fbl_runs.proofs.Common.{Entry, entry_member, is_at, log_of, IsAt, Position, at}
use Rattle.std.proofs.Common.{get_or}
use Rattle.std.proofs.lemmas.List.{take-take}
use Rattle.std.proofs.lemmas.Option.{slice_get_read}
use Rattle.fbl_trace.proofs.Gets.{length-left}
use Rattle.fbl_runs.specs.Clocks.{StandsAt, seen}

-- what is read of a list stands in the same list at that place
pub read : {X : Type 0} (all seen : List X) (i : ℕ) (x : X) → seen ≡ all → i < length seen → x ≡ get_or seen i x → slice_get all i ≡ Some x
read {X} all seen i x same within is = subst (λ (s : List X). slice_get s i ≡ Some x) same (slice_get_read seen (length seen) i x refl within is)

-- and so it does where the same list is known to have the place
pub read_at : {X : Type 0} (all seen : List X) (i : ℕ) (x : X) → seen ≡ all → i < length all → x ≡ get_or seen i x → slice_get all i ≡ Some x
read_at all seen i x same within is = read all seen i x same (subst (λ s. i < length s) (sym same) within) is

-- and at a place of the same number
pub read_number : {X : Type 0} (xs : List X) (i j : ℕ) (x : X) → i ≡ j → i < length xs → x ≡ get_or xs i x → slice_get xs j ≡ Some x
read_number {X} xs i j x same within is = subst (λ (k : ℕ). slice_get xs k ≡ Some x) same (slice_get_read xs (length xs) i x refl within is)

pub some_item : {X : Type 0} (xs : List X) (p : ℕ) → p < length xs → (x : X) × (slice_get xs p ≡ Some x)
some_item [] p below = absurd (omega (arith, below))
some_item (x ∷ xs) zero below = (x, refl)
some_item (x ∷ xs) (suc p) below = some_item xs p (omega (arith, below))

pub log_of-own : (t : List Entry) (e : Entry) (m : ℕ) → entry_member e ≡ m → log_of (t ++ e ∷ []) m ≡ log_of t m ++ e ∷ []
log_of-own t e m own = (let is : (entry_member e == m) ≡ true = grind (arith, nat_tests) in filter-append (is_at m) t (e ∷ []) ∙ (rw is refl))

pub log_of-other : (t : List Entry) (e : Entry) (m : ℕ) → entry_member e ≢ m → log_of (t ++ e ∷ []) m ≡ log_of t m
log_of-other t e m other = (let is : (entry_member e == m) ≡ false = grind (arith, nat_tests) in filter-append (is_at m) t (e ∷ []) ∙ (rw (is, append-nil) refl))

pub seen-own : (entries : List Entry) (p : ℕ) (e : Entry) (m : ℕ) → slice_get entries p ≡ Some e → entry_member e ≡ m → seen entries (suc p) m ≡ seen entries p m + 1
seen-own entries p e m here own = (rw (take-more entries p e here, log_of-own (take p entries) e m own) (length-append (log_of (take p entries) m) (e ∷ [])))

pub seen-other : (entries : List Entry) (p : ℕ) (e : Entry) (m : ℕ) → slice_get entries p ≡ Some e → entry_member e ≢ m → seen entries (suc p) m ≡ seen entries p m
seen-other entries p e m here other = (rw (take-more entries p e here, log_of-other (take p entries) e m other) refl)

-- no more entries of a member are among the first p than p
pub seen-le : (entries : List Entry) (p m : ℕ) → seen entries p m ≤ p
seen-le entries p m = omega (arith, length-left (is_at m) (take p entries), length-take p entries)

-- an entry stands in its member's log behind those of the member that come before it
pub placed : (entries : List Entry) (p : ℕ) (e : Entry) (m : ℕ) → slice_get entries p ≡ Some e → entry_member e ≡ m → IsAt (log_of entries) (at m (seen entries p m)) e
placed entries p e m here own =
    let t = take p entries in
    let front : log_of (take (suc p) entries) m ≡ log_of t m ++ e ∷ [] = (rw (take-more entries p e here) (log_of-own t e m own)) in
    let whole : log_of entries m ≡ (log_of t m ++ e ∷ []) ++ log_of (drop (suc p) entries) m =
    ap (λ x. log_of x m) (sym (take-append-drop (suc p) entries)) ∙ filter-append (is_at m) (take (suc p) entries) (drop (suc p) entries) ∙ ap (λ x. x ++ log_of (drop (suc p) entries) m) front in
    (rw whole (At-front (log_of t m ++ e ∷ []) (log_of (drop (suc p) entries) m) (length (log_of t m)) e (At-seam (log_of t m) e [])))

-- so the entry at a place stands at its position
pub stands_at : (entries : List Entry) (p : ℕ) (i : Position) (x : Entry) → StandsAt entries p i → slice_get entries p ≡ Some x → IsAt (log_of entries) i x
stands_at entries p i x stands here =
    let same : stands.0 ≡ x = (let s : Some stands.0 ≡ Some x = sym stands.1 ∙ here in cc) in
    let there = placed entries p x i.member here (ap entry_member (sym same) ∙ stands.2) in
    subst (λ (k : ℕ). slice_get (log_of entries i.member) k ≡ Some x) stands.3 there

pub some_entry : (entries : List Entry) (p : ℕ) → p < length entries → (e : Entry) × (slice_get entries p ≡ Some e)
some_entry [] p below = absurd (omega (arith, below))
some_entry (x ∷ xs) zero below = (x, refl)
some_entry (x ∷ xs) (suc p) below = some_entry xs p (omega (arith, below))

locate_below : (entries : List Entry) (P m k : ℕ) → P ≤ length entries → k < seen entries P m → (e : Entry) × (p : ℕ) × (p < P) × (slice_get entries p ≡ Some e) × (entry_member e ≡ m) × (seen entries p m ≡ k)
locate_below entries zero m k within below = absurd (omega (arith, below))
locate_below entries (suc P) m k within below =
    let here = some_entry entries P (omega (arith, within)) in
    elim (cases_eq (entry_member here.0) m) [
      | inl own ↦ (let one = seen-own entries P here.0 m here.1 own in elim (cases_eq (seen entries P m) k) [
        | inl same ↦ (here.0, P, omega arith, here.1, own, same)
        | inr ne ↦ (let r = locate_below entries P m k (omega (arith, within)) (omega (arith, below, one, ne)) in (r.0, r.1, omega (arith, r.2), r.3, r.4, r.5))
      ])
      | inr other ↦
          let same = seen-other entries P here.0 m here.1 other in
          let r = locate_below entries P m k (omega (arith, within)) (omega (arith, below, same)) in
          (r.0, r.1, omega (arith, r.2), r.3, r.4, r.5)
    ]

-- what stands at a position stands somewhere in the list
pub locate : (entries : List Entry) (P m k : ℕ) (e : Entry) → P ≤ length entries → k < seen entries P m → IsAt (log_of entries) (at m k) e
    → (p : ℕ) × (p < P) × (slice_get entries p ≡ Some e) × (entry_member e ≡ m) × (seen entries p m ≡ k)
locate entries P m k e within below is =
    let r = locate_below entries P m k within below in
    let there : IsAt (log_of entries) (at m (seen entries r.1 m)) r.0 = placed entries r.1 r.0 m r.3 r.4 in
    let there' : IsAt (log_of entries) (at m k) r.0 = (rw r.5 at there) in
    let same : r.0 ≡ e = (let some : Some r.0 ≡ Some e = sym there' ∙ is in cc) in
    (r.1, r.2, r.3 ∙ ap Some same, (rw (← same) r.4), r.5)

pub seen-all : (entries : List Entry) (m : ℕ) → seen entries (length entries) m ≡ length (log_of entries m)
seen-all entries m = ap (λ t. length (log_of t m)) (take_all (length entries) entries (omega arith))

pub locate_all : (entries : List Entry) (m k : ℕ) (e : Entry) → IsAt (log_of entries) (at m k) e
    → (p : ℕ) × (p < length entries) × (slice_get entries p ≡ Some e) × (entry_member e ≡ m) × (seen entries p m ≡ k)
locate_all entries m k e is = locate entries (length entries) m k e (omega arith) (rw seen-all (slice_get_within (log_of entries m) k e is)) is

-- no fewer entries are seen later
pub seen_mono : (entries : List Entry) (a b q : ℕ) → a ≤ b → seen entries a q ≤ seen entries b q
seen_mono entries zero b q before = omega arith
seen_mono entries (suc a) zero q before = absurd (omega (arith, before))
seen_mono [] (suc a) (suc b) q before = omega arith
seen_mono (e ∷ t) (suc a) (suc b) q before =
    let rest = seen_mono t a b q (omega (arith, before)) in
    elim (entry_member e == q) as (λ c. length (cond c (e ∷ log_of (take a t) q) (log_of (take a t) q)) ≤ length (cond c (e ∷ log_of (take b t) q) (log_of (take b t) q))) [ true ↦ omega (arith, rest) | false ↦ rest ]

-- more entries are seen later
pub seen-later : (entries : List Entry) (p q m : ℕ) (e : Entry) → slice_get entries p ≡ Some e → entry_member e ≡ m → p < q → seen entries p m < seen entries q m
seen-later entries p q m e here own before =
    let front : IsAt (log_of (take q entries)) (at m (seen (take q entries) p m)) e = placed (take q entries) p e m (slice_get-take entries q p e before here) own in
    let within = slice_get_within (log_of (take q entries) m) _ e front in
    (rw (take-take p q entries (omega (arith, before))) at within)

-- an entry that is listed once stands at one position
pub one_place : (entries : List Entry) (m k q l : ℕ) (x : Entry) → ((p q : ℕ) → slice_get entries p ≡ Some x → slice_get entries q ≡ Some x → p ≡ q)
    → IsAt (log_of entries) (at m k) x → IsAt (log_of entries) (at q l) x → (m ≡ q) × (k ≡ l)
one_place entries m k q l x once at_m at_q =
    let a = locate_all entries m k x at_m in
    let b = locate_all entries q l x at_q in
    let same : a.0 ≡ b.0 = once a.0 b.0 a.2 b.2 in
    let member : m ≡ q = sym a.3 ∙ b.3 in
    (member, sym a.4 ∙ ap (λ p. seen entries p m) same ∙ ap (λ m'. seen entries b.0 m') member ∙ b.4)
