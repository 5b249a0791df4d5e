use Rattle.fbl_judge.proofs.Common.{arith, ℕ, ◌≡◌, ◌<◌, ◌∙◌, Option, List, Entry, sym, ap, subst, length, cut_of, log_of, at, StandsAt}
use Rattle.std.proofs.Common.{min}
use Rattle.fbl_judge.specs.Dependents.{IsFirstOf}
use Rattle.fbl_judge.proofs.Dependents.{first_dependent, none_dependent}
use Rattle.fbl_judge.proofs.Places.{position_at}
use Rattle.fbl_judge.proofs.named.first_dependent_place.Goals as goal

-- those among the first that have come are those that have come
come : (a b x y count : ℕ) → a ≡ x → b ≡ y → count ≡ min a b → (k : ℕ) → k < x → k < y → k < count
come a b x y count is_x is_y is k in_x in_y = omega (arith, is_x, is_y, is, in_x, in_y)

pub place-requires : goal.place-requires
place-requires c =
    let es = c.args.pasts.now.entries in
    let i = position_at es c.args.receipt c.requires in
    let first = subst (λ (o : Option ℕ). IsFirstOf (log_of es) i.0 (cut_of c.args.moment.now) c.args.member c.min-count.result o) c.in-Some.is (c.first_number.ensures i.0 i.1) in
    let below = first.0 in
    let least = c.min-count.ensures in
    let count : c.count-2.result ≡ length (log_of c.index-in-Some.result.now c.args.member) = c.count-2.ensures ∙ ap (λ (es : List Entry). length (log_of es c.args.member)) (c.index.ensures ∙ sym c.index-in-Some.ensures) in
    omega (arith, below, least, count)

pub returns-in-Some : goal.returns-in-Some
returns-in-Some c i stands =
    let es = c.args.pasts.now.entries in
    let there = subst (λ (es : List Entry). StandsAt es c.place.result (at c.args.member c.in-Some.number)) c.index-in-Some.ensures c.place.ensures in
    first_dependent c.args.pasts.now i (cut_of c.args.moment.now) c.args.member c.min-count.result c.in-Some.number c.place.result there
    (subst (λ (o : Option ℕ). IsFirstOf (log_of es) i (cut_of c.args.moment.now) c.args.member c.min-count.result o) c.in-Some.is (c.first_number.ensures i stands))

pub returns-in-None : goal.returns-in-None
returns-in-None c i stands =
    let es = c.args.pasts.now.entries in
    let count : c.count-2.result ≡ length (log_of es c.args.member) = c.count-2.ensures ∙ ap (λ (es : List Entry). length (log_of es c.args.member)) c.index.ensures in
    none_dependent (log_of es) i (cut_of c.args.moment.now) c.args.member c.min-count.result
    (come c.count.result c.count-2.result (cut_of c.args.moment.now c.args.member) (length (log_of es c.args.member)) c.min-count.result c.count.ensures count c.min-count.ensures)
    (subst (λ (o : Option ℕ). IsFirstOf (log_of es) i (cut_of c.args.moment.now) c.args.member c.min-count.result o) c.in-None.is (c.first_number.ensures i stands))
