use Rattle.fbl_trace.proofs.Common.{ℕ, ◌<◌, Bool, List, Start, StartAllowedAt, arith, get_or_from_slice_get, length, refl, slice_get_read, slice_get_within}
use Rattle.std.proofs.lemmas.Bool.{cases_lt}
use Rattle.fbl_trace.proofs.config.ConfigRefusal.breach.Goals as goal

there : {N : Type 0} (allowed : N → Bool) (members place : ℕ) (starts : List (Start N)) → ¬ (StartAllowedAt allowed members starts place) → place < length starts
there allowed members place starts bad = grind (arith, bad, cases_lt place (length starts), slice_get_within)

pub bounds-starts-place : goal.bounds-starts-place
bounds-starts-place c = (let refused = (rw c.in-BadStart.is at c.requires) in there _ _ _ _ refused.4.1)

pub breach-rule-requires : goal.breach-rule-requires
breach-rule-requires c allowed =
    let refused = (rw c.in-BadStart.is at c.requires) in
    refused.4.1 (λ start at. rw (← get_or_from_slice_get c.args.starts.now c.in-BadStart.place start c.index-starts-place.result at, ← c.index-starts-place.is) allowed)

pub returns-in-BadStart : goal.returns-in-BadStart
returns-in-BadStart c =
    let refused = (rw c.in-BadStart.is at c.requires) in
    rw c.in-BadStart.is (refl, slice_get_read c.args.starts.now _ c.in-BadStart.place _ refl (there _ _ _ c.args.starts.now refused.4.1) c.index-starts-place.is, c.breach-rule.ensures)
