-- Where entries stand in the list and in their members' logs.
use Rattle.fbl_judge.proofs.Common.{ℕ, ◌≡◌, ◌<◌, ◌⊎◌, ◌∙◌, inl, inr, List, length, Some, slice_get, refl, sym, ap, arith, cases_order, slice_get_within}
use Rattle.fbl_judge.proofs.Common.{Causality, Entry, entry_member, log_of, IsAt, Position, Precedes, StandsAt, at, itself, step, seen}
use Rattle.fbl_runs.specs.Rules.{AreLawful}
pub use Rattle.fbl_runs.proofs.Listing.{read_at}
use Rattle.fbl_runs.proofs.Listing.{locate_all, seen-later, some_entry, stands_at}
use Rattle.fbl_runs.proofs.LeadsLaws.{leads_before}
use Rattle.fbl_runs.proofs.ClockLaws.{leads_there}

-- one entry stands at a place
pub one_entry : (entries : List Entry) (p : ℕ) (a b : Entry) → slice_get entries p ≡ Some a → slice_get entries p ≡ Some b → a ≡ b
one_entry entries p a b at_a at_b = (let both : Some a ≡ Some b = sym at_a ∙ at_b in cc)

-- and a position is that of one place
pub one_place : (entries : List Entry) (p q : ℕ) (i j : Position) → StandsAt entries p i → StandsAt entries q j → i ≡ j → p ≡ q
one_place entries p q i j at_i at_j same = elim (cases_order p q) [
  | inl is ↦ is
  | inr (inl less) ↦ absurd (
      let later = seen-later entries p q i.member at_i.0 at_i.1 at_i.2 less in
      let a = at_i.3 in
      let b : seen entries q i.member ≡ i.number = ap (λ (k : Position). seen entries q k.member) same ∙ at_j.3 ∙ sym (ap (λ (k : Position). k.number) same) in
      omega (arith, later, a, b))
  | inr (inr more) ↦ absurd (
      let later = seen-later entries q p j.member at_j.0 at_j.1 at_j.2 more in
      let a : seen entries p j.member ≡ j.number = ap (λ (k : Position). seen entries p k.member) (sym same) ∙ at_i.3 ∙ ap (λ (k : Position). k.number) same in
      let b = at_j.3 in
      omega (arith, later, a, b))
]

pub place_within : (entries : List Entry) (p : ℕ) (i : Position) → StandsAt entries p i → p < length entries
place_within entries p i stands = slice_get_within entries p stands.0 stands.1

-- each place has its position
pub position_at : (entries : List Entry) (p : ℕ) → p < length entries → (i : Position) × StandsAt entries p i
position_at entries p within = (let e = some_entry entries p within in (at (entry_member e.0) (seen entries p (entry_member e.0)), (e.0, e.1, refl, refl)))

-- and each position its place
pub place_of : (entries : List Entry) (i : Position) (e : Entry) → IsAt (log_of entries) i e → (p : ℕ) × StandsAt entries p i
place_of entries i e here = (let r = locate_all entries i.member i.number e here in (r.0, (e, r.2, r.3, r.4)))

-- the entry at the place is that at the position
pub placed_at : (entries : List Entry) (p : ℕ) (i : Position) (e : Entry) → StandsAt entries p i → IsAt (log_of entries) i e → slice_get entries p ≡ Some e
placed_at entries p i e stands here =
    let there = stands_at entries p i stands.0 stands stands.1 in
    let same : stands.0 ≡ e = (let some : Some stands.0 ≡ Some e = sym there ∙ here in cc) in
    stands.1 ∙ ap Some same

-- its member's log has it
pub number_within : (entries : List Entry) (p : ℕ) (i : Position) → StandsAt entries p i → i.number < length (log_of entries i.member)
number_within entries p i stands = slice_get_within (log_of entries i.member) i.number stands.0 (stands_at entries p i stands.0 stands stands.1)

-- it is of its member
pub member_is : (entries : List Entry) (p : ℕ) (e : Entry) (i : Position) → slice_get entries p ≡ Some e → StandsAt entries p i → entry_member e ≡ i.member
member_is entries p e i here stands = ap entry_member (one_entry entries p e stands.0 here stands.1) ∙ stands.2

-- what precedes stands no later
module _ (n : ℕ) (entries : List Entry) (lawful : AreLawful n entries) where
  pub precedes_later : {c : Causality} {i j : Position} (p q : ℕ) → StandsAt entries p i → StandsAt entries q j → Precedes c (log_of entries) i j → (i ≡ j) ⊎ (p < q)
  precedes_later p q at_i at_j (itself h) = inl refl
  precedes_later {c} {i} {j} p q at_i at_j (step {j = k} path leads) =
      let there = (leads_there c (log_of entries) k j leads).0 in
      let r = place_of entries k there.0 there.1 in
      let last = leads_before n entries lawful c r.0 q k j r.1 at_j leads in
      elim (precedes_later p r.0 at_i r.1 path) [
        | inl same ↦ inr (let is = one_place entries p r.0 i k at_i r.1 same in omega (arith, is, last))
        | inr less ↦ inr (omega (arith, less, last))
      ]
