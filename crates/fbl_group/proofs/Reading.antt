-- How large the parts of a sound group are.
pub use Rattle.fbl_group.proofs.Common.{◌≡◌, ℕ, ◌+◌, ◌-◌, ◌*◌, ◌≤◌, ◌==◌, not, Bool, List, [], ◌∷◌, length, map, refl, sym, ap, ◌∙◌, arith, length-map, sum_by-cons, length-left, determinant_of, mark_of, Next, IsUp, GroupRecord, member, channel, marks, knowledge, receipts, sum_below, IsSound, up_if_none, sum_below-agree, inl, inr, sum_by, filter_map, list_any, length-filter_map, Mark, Send, in_flight, sent_on, taken_on}
pub use Rattle.fbl_group.proofs.Common.{send_mark, messages_in_flight, down_or_both_up, trace_fits, weight_in, weight_on, into, out, flow, table_fits}
use Rattle.std.specs.FinSet as set
use Rattle.fbl_trace.specs.declared.trace.Mark.TheVariants.{Receipt}

-- nobody is in the set exactly where its count is 0
pub ruleset nobody_counted = (set.empty_of_len, set.len-empty)

in_flight-fits : (t : List Mark) (q p : ℕ) → length (in_flight t q p) ≤ length t
in_flight-fits t q p =
    let untaken : ℕ → Bool = (λ ssn. not (list_any (λ taken. taken == ssn) (filter_map (taken_on q p) t))) in
    omega (arith, length-left untaken (filter_map (sent_on q p) t), length-filter_map (sent_on q p) t)

-- each message weighs one: the weight is their number
abbrev one : ℕ → ℕ → ℕ
one q ssn = 1

weighs-length : (q : ℕ) (ssns : List ℕ) → sum_by (one q) ssns ≡ length ssns
weighs-length q [] = refl
weighs-length q (s ∷ ssns) = omega (arith, sum_by-cons (one q) s ssns, weighs-length q ssns)

taken-count : (n : ℕ) (t : List Mark) → sum_by (into n one) t ≡ length (receipts t)
taken-count n [] = refl
taken-count n (Send q s p ∷ t) = omega (arith, sum_by-cons (into n one) (Send q s p) t, taken-count n t)
taken-count n (Receipt p k q s ∷ t) = omega (arith, sum_by-cons (into n one) (Receipt p k q s) t, taken-count n t)

sent-count : (n : ℕ) (t : List Mark) → sum_by (out n one) t + length (receipts t) ≡ length t
sent-count n [] = refl
sent-count n (Send q s p ∷ t) = omega (arith, sum_by-cons (out n one) (Send q s p) t, sent-count n t)
sent-count n (Receipt p k q s ∷ t) = omega (arith, sum_by-cons (out n one) (Receipt p k q s) t, sent-count n t)

module _ {S N : Type 0} (next : Next S N) (r : GroupRecord S N) (sound : IsSound next r) where
  -- what was sent and not taken, by the trace
  unreceived : weight_on r.config.members one (marks r) + 2 * length (receipts (marks r)) ≡ length r.trace
  unreceived =
      let n = r.config.members in
      omega (arith, flow n one (marks r) sound.lawful.well_formed, taken-count n (marks r), sent-count n (marks r), length-map r.trace mark_of)

  pub received-twice : 2 * (r.receipts_ever - r.undone_ever) ≤ length r.trace
  received-twice = omega (arith, unreceived, sound.counted)

  -- a channel between members that are up has as many messages as are in flight by the trace
  as-in-flight : (q p : ℕ) → IsUp (knowledge r) q → IsUp (knowledge r) p → length (channel r q p) ≡ length (in_flight (marks r) q p)
  as-in-flight q p up_q up_p =
      let same : length (map send_mark (channel r q p)) ≡ length (map (λ ssn. Send q ssn p) (in_flight (marks r) q p)) = ap length (sound.causes.channels q p up_q up_p) in
      omega (arith, same, length-map (channel r q p) send_mark, length-map (in_flight (marks r) q p) (λ ssn. Send q ssn p))

  -- while nobody is down that is in flight
  pub unreceived-fly : set.len r.down ≡ 0 → length r.trace - 2 * (r.receipts_ever - r.undone_ever) ≡ messages_in_flight r
  unreceived-fly nobody =
      let n = r.config.members in
      let up : (m : ℕ) → IsUp (knowledge r) m = up_if_none (set.empty_of_len r.down nobody) in
      let all = sum_below-agree n (λ q. sum_below n (λ p. length (channel r q p))) (λ q. sum_below n (weight_in n one (marks r) q))
      (λ q below. sum_below-agree n (λ p. length (channel r q p)) (weight_in n one (marks r) q)
      (λ p below_p. as-in-flight q p (up q) (up p) ∙ sym (weighs-length q (in_flight (marks r) q p)))) in
      omega (arith, all, unreceived, sound.counted)

  -- a channel has at most as many messages as the trace may have events
  pub channel_fits : (q p : ℕ) → length (channel r q p) ≤ 8192
  channel_fits q p = elim (down_or_both_up r.down q p) [
    | inl down ↦ rw (sound.causes.down.channels q p down) omega arith
    | inr up ↦ omega (arith, as-in-flight q p up.0 up.1, in_flight-fits (marks r) q p, trace_fits next r sound)
  ]

  -- and so has a table at most as many entries
  pub held_fits : (m : ℕ) → length (member r m).table ≤ 8192
  held_fits m = omega (arith, table_fits next r sound m, length-filter_map determinant_of (marks r), trace_fits next r sound)
