use Rattle.std.proofs.Common.{◌≡◌, ℕ, zero, suc, ◌<◌, ◌≤◌, ◌⊎◌, Bool, cond, inl, inr, ap, arith}
use Rattle.std.proofs.lemmas.Bool.{cases_lt}
use Rattle.std.specs.FinSet as set
use Rattle.std.proofs.lemmas.Bool.Decides.{nat_tests}
use Rattle.fbl_trace.specs.declared.trace.Note.{Note}
use Rattle.fbl_trace.specs.Configs.{Settings}
use Rattle.fbl_law.specs.Groups.{member, member_checkpoint, messages_in_flight, sum_below}
use Rattle.fbl_behaviours.specs.Elections.{greatest, has_greatest, brought-most, taken-most}
use Rattle.fbl_behaviours.specs.declared.candidate.Standing.{Standing}
use Rattle.fbl_examples.proofs.election.elected.Goals as goal

-- a sum of parts that are at most 1
sum-most : (n : ℕ) (a : ℕ → ℕ) → ((x : ℕ) → a x ≤ 1) → sum_below n a ≤ n
sum-most zero a most = omega arith
sum-most (suc n) a most = omega (arith, sum-most n a most, most n)

-- where it is as great as can be, each part is 1
each-one : (n : ℕ) (a : ℕ → ℕ) → ((x : ℕ) → a x ≤ 1) → n ≤ sum_below n a → (x : ℕ) → x < n → a x ≡ 1
each-one zero a most all x below = absurd (omega arith)
each-one (suc n) a most all x below = at (cases_lt x n) (each-one n a most (omega (arith, all, most n)) x) where
  at : (x < n) ⊎ (n ≤ x) → (x < n → a x ≡ 1) → a x ≡ 1
  at (inl less) before = before less
  at (inr past) before = (let same : x ≡ n = omega arith in omega (arith, ap a same, sum-most n a most, most n, all))

counts-once : (c : Settings Note) (down : Bool) (me : ℕ) (state : Standing) → cond down 0 (has_greatest c me state) ≤ 1
counts-once c down me state = grind (arith, nat_tests)

counted : (c : Settings Note) (down : Bool) (me : ℕ) (state : Standing) → cond down 0 (has_greatest c me state) ≡ 1 → state.greatest ≡ greatest c.starts
counted c down me state one = grind (arith, nat_tests)

pub returns-clause-most : goal.returns-clause-most
returns-clause-most c =
    let r = c.args.group.now in
    let held = c.kept.ensures in
    record {
      states = λ m below. taken-most r.config m (member r m).state (held.states m below);
      checkpoints = λ m below. taken-most r.config m (member_checkpoint r m).state (held.checkpoints m below);
      flying = λ v flies. brought-most r.config v.note.value (held.flying v flies).0;
      sent = λ i from ssn to note at. brought-most r.config note.value (held.sent i from ssn to note at).0;
    }

pub returns-clause-agreed : goal.returns-clause-agreed
returns-clause-agreed c reaches quiet m below =
    let r = c.args.group.now in
    let none : (set.len r.down ≡ 0) × (messages_in_flight r ≡ 0) = (grind (arith, nat_tests, quiet), grind (arith, nat_tests, quiet)) in
    let held = c.none_lost.ensures.settled (set.empty_of_len r.down none.0) none.1 in
    counted r.config (set.contains r.down m) m (member r m).state (each-one r.config.members (λ k. cond (set.contains r.down k) 0 (has_greatest r.config k (member r k).state))
    (λ k. counts-once r.config (set.contains r.down k) k (member r k).state) (omega (arith, reaches, held)) m below)
