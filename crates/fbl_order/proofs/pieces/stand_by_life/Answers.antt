use Rattle.std.proofs.Common.{ℕ, ◌≡◌, ◌∙◌, ◌<◌, ◌≤◌, arith, get_or, inl, inr, length, refl, sym, get_or-set_other, get_or-set_same, length-set, set}
use Rattle.std.proofs.lemmas.Bool.{cases_eq, cases_lt}
use Rattle.std.proofs.lemmas.Option.{slice_get_read}
use Rattle.fbl_order.specs.Pieces.{life_at, member_at}
use Rattle.fbl_order.proofs.PieceLaws.{given_in_turn, given_rise, member_is}
use Rattle.fbl_order.proofs.pieces.stand_by_life.Goals as goal

pub returns-then-lives-place : goal.returns-then-lives-place
returns-then-lives-place c =
    let entries = c.args.entries.now in
    let lives = c.args.lives.now in
    let place : ℕ = c.loop-place.place in
    let at = slice_get_read entries _ place _ refl c.loop-place-test.true c.index-entries-place.is in
    let number = c.number-number.ensures.value ∙ c.member.ensures ∙ sym (member_is entries place c.index-entries-place.result at) in
    let less = c.if-lives-place.true in (
      λ no. absurd cc,
      λ all. elim (c.loop-place.invariant.last c.number-number.result) [
        | inl none ↦ absurd (omega (arith, none, less))
        | inr some ↦ (
            let rises = given_rise entries lives all some.0 place some.1 c.loop-place-test.true (some.2 ∙ number) in
            let is = some.3 in
            absurd (omega (arith, rises, is, less))
            )
      ],
    )

pub loop-place-preserved : goal.loop-place-preserved
loop-place-preserved c =
    let entries = c.args.entries.now in
    let lives = c.args.lives.now in
    let latest = c.loop-place.latest in
    let place : ℕ = c.loop-place.place in
    let q : ℕ = c.number-number.result in
    let life : ℕ = life_at lives place in
    let at = slice_get_read entries _ place _ refl c.loop-place-test.true c.index-entries-place.is in
    let number : q ≡ member_at entries place = c.number-number.ensures.value ∙ c.member.ensures ∙ sym (member_is entries place c.index-entries-place.result at) in
    let not = c.if-lives-place.false in
    let old = c.loop-place.invariant in
    let within : q < length latest = (let room = old.room in let bound = c.number-number.ensures.bound in omega (arith, room, bound)) in
    let new : get_or (set latest q life) q 0 ≡ life = get_or-set_same latest q life 0 within in
    let most : (i : ℕ) → i < place → member_at entries i ≡ q → life_at lives i ≤ life = (λ i before same.
    let least : life_at lives i ≤ get_or latest q 0 = rw same at (old.least i before) in omega (arith, least, not)) in
    record {
      rise = λ i j before below same. elim (cases_lt j place) [
        | inl earlier ↦ old.rise i j before earlier same
        | inr not_earlier ↦ (
            let is : j ≡ place = omega (arith, below, not_earlier) in
            rw is (most i (omega (arith, before, is)) (same ∙ (rw is (sym number))))
            )
      ];
      least = λ i below. elim (cases_eq (member_at entries i) q) [
        | inl same ↦ rw (same, new) (elim (cases_lt i place) [
          | inl earlier ↦ most i earlier same
          | inr not_earlier ↦ (let is : i ≡ place = omega (arith, below, not_earlier) in rw is (omega arith))
        ])
        | inr other ↦ rw (get_or-set_other latest q (member_at entries i) life 0 other) (old.least i (elim (cases_lt i place) [
          | inl earlier ↦ earlier
          | inr not_earlier ↦ (let is : i ≡ place = omega (arith, below, not_earlier) in absurd (other (rw is (sym number))))
        ]))
      ];
      last = λ other. elim (cases_eq other q) [
        | inl same ↦ rw (same, new) (inr (place, omega arith, sym number, refl))
        | inr differs ↦ rw (get_or-set_other latest q other life 0 differs) (elim (old.last other) [
          | inl none ↦ inl none
          | inr some ↦ inr (some.0, (let below = some.1 in omega (arith, below)), some.2, some.3)
        ])
      ];
      room = length-set latest q life ∙ old.room;
    }

pub returns : goal.returns
returns c = (
  λ yes i j d before below. given_in_turn c.args.entries.now c.args.lives.now (λ a b first within same. c.loop-place.invariant.rise a b first
      (let past = c.loop-place-test.false in omega (arith, within, past)) same) i j d before below,
  λ all. refl,
)
