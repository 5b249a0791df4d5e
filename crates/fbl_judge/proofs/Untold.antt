-- Where no member is told a control message and none restarts, what happened before an entry is just that on which it depends.
use Rattle.fbl_judge.proofs.Common.{ℕ, zero, suc, false, ◌≡◌, ◌+◌, ◌↔◌, inl, inr, List, [], ◌∷◌, Some, slice_get, ap, arith, Dependence, HappenedBefore, Entry, log_of, Position, Precedes, Leads, itself, step, ControlMessage, Restart, Told}
use Rattle.fbl_runs.specs.declared.entry.Restart as restart
use Rattle.std.specs.List.{list_any}
use Rattle.fbl_runs.proofs.Listing.{locate_all}
use Rattle.fbl_judge.specs.Pasts.{is_told_or_restart}
use Rattle.fbl_judge.proofs.MomentLaws.{happened, stands_on}

module _ (entries : List Entry) (none : list_any is_told_or_restart entries ≡ false) where
  untold : (es : List Entry) → list_any is_told_or_restart es ≡ false → (i : ℕ) (m : ControlMessage) → ¬ (slice_get es i ≡ Some (Told m))
  untold [] none i m there = absurd cc
  untold (e ∷ es) none zero m there = (let is : e ≡ Told m = cc in let told = ap is_told_or_restart is in absurd (grind (arith, none, told)))
  untold (e ∷ es) none (suc i) m there = untold es (grind (arith, none)) i m there

  unstarted : (es : List Entry) → list_any is_told_or_restart es ≡ false → (i : ℕ) (r : restart.Restart) → ¬ (slice_get es i ≡ Some (Restart r))
  unstarted [] none i r there = absurd cc
  unstarted (e ∷ es) none zero r there = (let is : e ≡ Restart r = cc in let back = ap is_told_or_restart is in absurd (grind (arith, none, back)))
  unstarted (e ∷ es) none (suc i) r there = unstarted es (grind (arith, none)) i r there

  no_restart : (q k : ℕ) (r : restart.Restart) → ¬ (slice_get (log_of entries q) k ≡ Some (Restart r))
  no_restart q k r here = (let w = locate_all entries q k (Restart r) here in unstarted entries none w.0 r w.2)

  leads : (i j : Position) → Leads HappenedBefore (log_of entries) i j → Leads Dependence (log_of entries) i j
  leads i j (inl own) = inl (own, stands_on (log_of entries i.member) i.number (j.number + 1) (let less = own.5 in omega (arith, less)) (λ number r after before here. no_restart i.member number r here))
  leads i j (inr (inl carries)) = inr carries
  leads i j (inr (inr (inl tells))) = absurd (let w = locate_all entries j.member j.number (Told tells.0) tells.2 in untold entries none w.0 tells.0 w.2)
  leads i j (inr (inr (inr begins))) = absurd (no_restart i.member i.number begins.0 begins.2)

  depends : (i j : Position) → Precedes HappenedBefore (log_of entries) i j → Precedes Dependence (log_of entries) i j
  depends i j (itself at_i) = itself at_i
  depends i j (step {j = k} before last) = step (depends i k before) (leads k j last)

  pub same_paths : (i j : Position) → Precedes HappenedBefore (log_of entries) i j ↔ Precedes Dependence (log_of entries) i j
  same_paths i j = (depends i j, λ p. happened p)
