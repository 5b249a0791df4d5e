use Rattle.fbl_judge.proofs.Common.{◌≡◌, ◌<◌, ◌↔◌, ◌∙◌, true, arith, ap, nat_tests, sym, subst, Option, Some, Position, StandsAt, List, Entry}
use Rattle.fbl_runs.proofs.LeadsLaws.{one_position}
use Rattle.fbl_judge.specs.Dependents.{IsLesser}
use Rattle.fbl_judge.proofs.Places.{member_is, position_at, read_at}
use Rattle.std.proofs.Common.{ℕ, IfSome, length, nat_lt}
use Rattle.fbl_judge.proofs.named.is_lesser.Goals as goal

-- the number is less exactly where the member is
by_number : (entries : List Entry) (a b : ℕ) (r k : Position) (p : ℕ) → a ≡ r.member → b ≡ k.member → StandsAt entries p k → (nat_lt a b ≡ true) ↔ IsLesser entries r (Some p)
by_number entries a b r k p own its at_k = (
  λ h. (k, at_k, (let lt : a < b = grind (arith, nat_tests, h) in omega (arith, lt, own, its))),
  λ lesser.
      let same = ap (λ (i : Position). i.member) (one_position entries p lesser.0 k lesser.1 at_k) in
      let lt : a < b = (let less = lesser.2 in omega (arith, less, same, own, its)) in
      grind (arith, nat_tests, lt),
)

pub returns-in-Some : goal.returns-in-Some
returns-in-Some c r at_r =
    let es = c.args.pasts.now.entries in
    let list = c.entries-entries.result.now in
    let same = c.entries-entries.ensures.entries in
    let within : c.in-Some.other < length es = subst (λ (o : Option ℕ). IfSome o (λ p. p < length es)) c.in-Some.is c.requires.least in
    let own = member_is es c.args.place _ r (read_at es list c.args.place _ same c.requires.place c.index-entries-place.is) at_r in
    let k = position_at es c.in-Some.other within in
    let its = member_is es c.in-Some.other _ k.0 (read_at es list c.in-Some.other _ same within c.index-entries-other.is) k.1 in
    subst (λ (o : Option ℕ). (nat_lt c.number.result c.number-in-Some.result ≡ true) ↔ IsLesser es r o) (sym c.in-Some.is)
    (by_number es c.number.result c.number-in-Some.result r k.0 c.in-Some.other (c.number.ensures.value ∙ c.member.ensures ∙ own) (c.number-in-Some.ensures.value ∙ c.member-in-Some.ensures ∙ its) k.1)
