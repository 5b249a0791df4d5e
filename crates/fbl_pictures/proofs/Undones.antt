-- The first receipt that a restart undid and that leaves orphans, where it is drawn, and receipts of a safe run.
use Rattle.fbl_pictures.proofs.Common.{ℕ, ◌+◌, ◌<◌, ◌≤◌, ◌≡◌, ◌∙◌, ◌∷◌, [], inl, inr, true, false, List, Option, Some, None, length, slice_get, ap, arith, cases_eq, subst, sym, Entry}
use Rattle.std.specs.Prelude.{Bool, IfSome, MatchOption, nat_lt, if◌then◌else◌}
use Rattle.fbl_runs.specs.HappenedBefore.{Position}
use Rattle.fbl_runs.specs.Logs.{RunParts, run_of}
use Rattle.fbl_runs.specs.Runs.{IsSafe}
use Rattle.fbl_runs.specs.declared.judged.Judged.{Judged}
use Rattle.fbl_runs.specs.declared.judged.Judged.TheVariants.{AtEachMoment, AtItsEnd}
use Rattle.fbl_judge.proofs.Places.{place_within}
use Rattle.fbl_judge.specs.Undone.{IsSaidUndone, LeavesOrphans, SaysUndone}
use Rattle.fbl_judge.specs.Unsafe.{IsReceiptPlace, IsUnsafe}
use Rattle.fbl_judge.specs.declared.undone.UndoneReceipt.{UndoneReceipt}
use Rattle.fbl_pictures.specs.RunPictures.{IsFirstUndone, LeavesNone, drawn_around}
use Rattle.fbl_pictures.specs.RunShapes.{shown, shown_entries}

module _ (run : RunParts) where
  -- of what is said from a place on the first is said of a receipt, before which none was undone and leaves orphans
  first_from : (place : ℕ) (entries : List Entry) (said : UndoneReceipt) (rest : List UndoneReceipt) → SaysUndone run place entries (said ∷ rest)
      → ((i : Position) × IsSaidUndone run i said) × ((p : ℕ) (i : Position) → place ≤ p → p < said.place → IsReceiptPlace run p i → ¬ (LeavesOrphans run i))
  first_from place [] said rest none = absurd (let zero = ap (λ (s : List UndoneReceipt). length s) none in omega (arith, zero))
  first_from place (e ∷ entries) said rest (inl later) =
      let r = first_from (place + 1) entries said rest later.1 in (
        r.0,
        λ p i past below is. elim (cases_eq p place) [
          | inl same ↦ later.0 i (subst (λ (p : ℕ). IsReceiptPlace run p i) same is)
          | inr ne ↦ r.1 p i (omega (arith, past, ne)) below is
        ],
      )
  first_from place (e ∷ entries) said rest (inr r) =
      let same : said ≡ r.1 = (let both = r.3 in cc) in (
        (r.0, subst (λ (s : UndoneReceipt). IsSaidUndone run r.0 s) (sym same) r.5),
        λ p i past below is. absurd (let here : said.place ≡ place = ap (λ (s : UndoneReceipt). s.place) same ∙ r.4 in omega (arith, past, below, here)),
      )

  -- where nothing is said from a place on, none from there on was
  none_from : (place : ℕ) (entries : List Entry) → SaysUndone run place entries [] → (p : ℕ) (i : Position) → place ≤ p → p < place + length entries
      → IsReceiptPlace run p i → ¬ (LeavesOrphans run i)
  none_from place [] says p i past below is = absurd (omega (arith, past, below))
  none_from place (e ∷ entries) (inl later) p i past below is = elim (cases_eq p place) [
    | inl same ↦ later.0 i (subst (λ (p : ℕ). IsReceiptPlace run p i) same is)
    | inr ne ↦ none_from (place + 1) entries later.1 p i (omega (arith, past, ne)) (omega (arith, below)) is
  ]
  none_from place (e ∷ entries) (inr r) p i past below is = absurd (let zero = ap (λ (s : List UndoneReceipt). length s) r.3 in omega (arith, zero))

  -- the first of all that is said
  pub first_undone : (said : List UndoneReceipt) → SaysUndone run 0 run.entries said → (o : Option UndoneReceipt) → o ≡ slice_get said 0
      → MatchOption o (LeavesNone run) (IsFirstUndone run)
  first_undone [] says None is = λ p i there. none_from 0 run.entries says p i (omega arith) (let within = place_within run.entries p i there.0 in omega (arith, within)) there
  first_undone [] says (Some first) is = absurd (cc)
  first_undone (said ∷ rest) says None is = absurd (cc)
  first_undone (said ∷ rest) says (Some first) is =
      let r = first_from 0 run.entries said rest says in
      let same : said ≡ first = (cc) in
      subst (IsFirstUndone run) same (record { says = r.0; none = λ p i below there. r.1 p i (omega arith) below there })

  -- no receipt of a safe run is unsafe
  pub safe_none : IsSafe (run_of run) → (i : Position) → ¬ (IsUnsafe (run_of run) i)
  safe_none safe i u = safe u.0 u.1 u.2.0 u.2.1 u.2.3.0 (u.2.3.1.0, (i, u.2.2, u.2.3.1.1))

-- the place of the restart is drawn, as all of a log is
module _ (run : RunParts) (i : Position) (said : UndoneReceipt) (is : IsSaidUndone run i said) where
  restart_at : (j : Judged) → j ≡ AtEachMoment → said.at < length (shown j run.entries)
  restart_at AtEachMoment each = place_within run.entries said.at is.restart.0 is.restart.1
  restart_at AtItsEnd each = absurd (cc)

  -- so is the place around which the log is drawn
  pub restart_drawn : run.judged ≡ AtEachMoment → (asked : Option ℕ) → IfSome asked (λ place. place < length (shown_entries run))
      → IfSome (drawn_around (length (shown_entries run)) asked (Some said.at)) (λ place. place < length (shown_entries run))
  restart_drawn each (Some place) within = within
  restart_drawn each None within = by_count (nat_lt 200 (length (shown_entries run))) where
    by_count : (many : Bool) → IfSome (if many then Some said.at else None) (λ place. place < length (shown_entries run))
    by_count true = restart_at run.judged each
    by_count false = tt
