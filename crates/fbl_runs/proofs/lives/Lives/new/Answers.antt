use Rattle.fbl_runs.proofs.Common.{ℕ, ◌≡◌, ◌+◌, ◌++◌, ◌∷◌, [], ◌∙◌, arith, ap, At-push, inl, inr, length, length-append, List, None, refl, slice_get, Some, subst, sym}
use Rattle.std.specs.Map.{lookup}
use Rattle.fbl_runs.specs.ControlMessages.{same_control}
use Rattle.fbl_runs.proofs.LivedLaws.{IsFirstLife, IsFirstLog, lived_none}
use Rattle.fbl_runs.proofs.lives.Lives.new.Goals as goal

nothing : {X : Type 0} (xs : List X) (P : ℕ → X → Type 0) → xs ≡ [] → (q : ℕ) (x : X) → slice_get xs q ≡ Some x → P q x
nothing xs P none q x is = absurd (let wrong : None ≡ Some x = sym (ap (λ s. slice_get s q) none) ∙ is in cc)

one_more : {X : Type 0} (xs ys : List X) (y : X) (n : ℕ) (P : ℕ → X → Type 0) → ys ≡ xs ++ y ∷ [] → length xs ≡ n → P n y → ((q : ℕ) (x : X) → slice_get xs q ≡ Some x → P q x) → (q : ℕ) (x : X) → slice_get ys q ≡ Some x → P q x
one_more {X} xs ys y n P grown size last before q x is = elim (At-push xs y q x (sym (ap (λ s. slice_get s q) grown) ∙ is)) [
  | inl old ↦ before q x old
  | inr new ↦ subst (P q) new.1 (subst (λ (k : ℕ). P k y) (sym size ∙ sym new.0) last)
]

longer : {X : Type 0} (xs ys : List X) (y : X) (n : ℕ) → ys ≡ xs ++ y ∷ [] → length xs ≡ n → length ys ≡ n + 1
longer xs ys y n grown size = ap length grown ∙ length-append xs (y ∷ []) ∙ ap (λ n. n + 1) size

pub loop-number-init : goal.loop-number-init
loop-number-init c = record {
  lives_count = ap length c.new-lives.ensures.items;
  logs_count = ap length c.new-logs.ensures.items;
  each_life = nothing c.new-lives.result.items IsFirstLife c.new-lives.ensures.items;
  each_log = nothing c.new-logs.result.items IsFirstLog c.new-logs.ensures.items;
}

pub loop-number-preserved : goal.loop-number-preserved
loop-number-preserved c = record {
  lives_count = longer c.loop-number.lives.items c.push.new.self.items _ c.loop-number.number c.in_ok-push.ensures.items c.loop-number.invariant.lives_count;
  logs_count = longer c.loop-number.logs.items c.push-in-loop-number.new.self.items _ c.loop-number.number c.in_ok-push-2.ensures.items c.loop-number.invariant.logs_count;
  each_life = one_more c.loop-number.lives.items c.push.new.self.items _ c.loop-number.number IsFirstLife c.in_ok-push.ensures.items c.loop-number.invariant.lives_count
      (record { member_is = c.at.ensures; life_is = refl; restart_is = refl; sends_are = c.new.ensures.items }) c.loop-number.invariant.each_life;
  each_log = one_more c.loop-number.logs.items c.push-in-loop-number.new.self.items _ c.loop-number.number IsFirstLog c.in_ok-push-2.ensures.items c.loop-number.invariant.logs_count
      (record { places_are = c.new-in-loop-number.ensures.items; standing_are = c.new-in-loop-number-2.ensures.items; life_is = refl }) c.loop-number.invariant.each_log;
}

pub invariant_of-result : goal.invariant_of-result
invariant_of-result c = record { room = (let size = c.loop-number.invariant.logs_count in let end = c.loop-number.auto.number-end in let past = c.loop-number-test.false in omega (arith, size, end, past)) }

pub returns : goal.returns
returns c =
    let size : c.loop-number.number ≡ 16 = (let end = c.loop-number.auto.number-end in let past = c.loop-number-test.false in omega (arith, end, past)) in
    lived_none _ (c.loop-number.invariant.lives_count ∙ size) c.loop-number.invariant.each_life (λ q log is below. c.loop-number.invariant.each_log q log is) (c.loop-number.invariant.logs_count ∙ size)
    (λ m. ap (lookup (same_control m)) c.new-2.ensures.empty)
