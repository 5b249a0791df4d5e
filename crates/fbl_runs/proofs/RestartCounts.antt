-- How many restarts a list of entries has, an entry more at a time.
use Rattle.fbl_runs.proofs.Common.{ℕ, suc, false, cond, ◌≡◌, ◌+◌, ◌⊎◌, ◌++◌, ◌∷◌, ◌∙◌, [], inl, inr, ap, refl, arith, List, Option, None, Some, slice_get, take, take-more, Entry, Restart}
use Rattle.std.proofs.lemmas.List.Sums.{sum_by_push}
use Rattle.fbl_runs.specs.declared.entry.Restart as restart
use Rattle.fbl_runs.specs.Rules.{is_restart, restarts}
use Rattle.fbl_runs.proofs.LifeLaws.{take-none}

pub restart_counted : (before : List Entry) (e : Entry) → restarts (before ++ e ∷ []) ≡ restarts before + cond (is_restart e) 1 0
restart_counted before e = sum_by_push (λ (x : Entry). cond (is_restart x) 1 0) before e

one_restart : (e : Entry) → (is_restart e ≡ false) ⊎ ((r : restart.Restart) × (e ≡ Restart r))
one_restart (Restart r) = inr (r, refl)
one_restart e = inl refl

-- the next entry is a restart, and one more has come, or as many have come
pub restarts_next : (log : List Entry) (k : ℕ)
    → (restarts (take (suc k) log) ≡ restarts (take k log))
    ⊎ ((r : restart.Restart) × (slice_get log k ≡ Some (Restart r)) × (restarts (take (suc k) log) ≡ restarts (take k log) + 1))
restarts_next log k = by_entry (slice_get log k) refl where
  by_entry : (o : Option Entry) → slice_get log k ≡ o
      → (restarts (take (suc k) log) ≡ restarts (take k log))
      ⊎ ((r : restart.Restart) × (slice_get log k ≡ Some (Restart r)) × (restarts (take (suc k) log) ≡ restarts (take k log) + 1))
  by_entry None none = inl (ap restarts (take-none log k none))
  by_entry (Some e) here =
      let count : restarts (take (suc k) log) ≡ restarts (take k log) + cond (is_restart e) 1 0 = ap restarts (take-more log k e here) ∙ restart_counted (take k log) e in
      elim (one_restart e) [
        | inl other ↦ inl (let none = ap (λ b. restarts (take k log) + cond b 1 0) other in omega (arith, count, none))
        | inr is ↦ inr (is.0, here ∙ ap Some is.1, count ∙ ap (λ e. restarts (take k log) + cond (is_restart e) 1 0) is.1)
      ]
