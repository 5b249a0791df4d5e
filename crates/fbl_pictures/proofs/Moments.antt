-- Who is an orphan, and around which place a run is drawn.
use Rattle.fbl_pictures.proofs.Common.{ℕ, ◌<◌, ◌==◌, ◌≡◌, ◌∙◌, ◌↔◌, true, false, not, false≢true, Option, Some, None, length, nat_tests, refl, sym, ap, arith, slice_get_within}
use Rattle.std.specs.FinSet as set
use Rattle.std.specs.Prelude.{Bool, IfSome, nat_lt, if◌then◌else◌}
use Rattle.std.specs.Ordering.{nat_cmp}
use Rattle.fbl_trace.proofs.Sets.{some_outside}
use Rattle.fbl_trace.specs.MemberSets.{Members}
use Rattle.fbl_runs.specs.HappenedBefore.{Position}
use Rattle.fbl_runs.specs.Logs.{RunParts, run_of}
use Rattle.fbl_runs.specs.Runs.{IsOrphanAt}
use Rattle.fbl_runs.specs.declared.judged.Judged.{Judged}
use Rattle.fbl_runs.specs.declared.judged.Judged.TheVariants.{AtEachMoment, AtItsEnd}
use Rattle.fbl_judge.specs.Audits.{IsAudit, end_of}
use Rattle.fbl_judge.specs.Unsafe.{IsSaidAt, IsSaidOf}
use Rattle.fbl_judge.specs.declared.audit.Audit.{Audit}
use Rattle.fbl_judge.specs.declared.check.UnsafeReceipt.{UnsafeReceipt}
use Rattle.fbl_pictures.specs.RunPictures.{HasOrphan, drawn_around}
use Rattle.fbl_pictures.specs.RunShapes.{shown, shown_entries}

-- a set of members has one, or none
module _ (P : ℕ → Type 0) (members : Members) (are : (q : ℕ) → (set.contains members q ≡ true) ↔ P q) where
  pub some_member : (set.len members == 0) ≡ false → (q : ℕ) × P q
  some_member some =
      let none : set.len (set.empty {R = nat_cmp}) ≡ 0 = set.len-empty nat_cmp in
      let q = some_outside members set.empty (grind (arith, nat_tests, none, some)) in
      (q.0, (are q.0).0 q.1)

  pub no_member : (set.len members == 0) ≡ true → (q : ℕ) → ¬ (P q)
  no_member none q is =
      let empty : members ≡ set.empty = set.empty_of_len members (grind (arith, nat_tests, none)) in
      let out : set.contains (set.empty {R = nat_cmp}) q ≡ false = set.contains-empty nat_cmp q in
      false≢true (sym out ∙ ap (λ s. set.contains s q) (sym empty) ∙ (are q).1 is)

-- whether the audit has an orphan tells whether the run has one at the end at which it is judged
pub orphan_at_end : (run : RunParts) (audit : Audit) → IsAudit run audit → run.judged ≡ AtItsEnd → (none : Bool) → none ≡ (set.len audit.orphans == 0)
    → (not none ≡ true) ↔ HasOrphan run
orphan_at_end run audit is end true e =
    (λ h. absurd (false≢true h), λ has. absurd (no_member (IsOrphanAt (run_of run) (end_of run) run.strike) audit.orphans is.orphans (sym e) has.1.0 has.1.1))
orphan_at_end run audit is end false e =
    (λ h. (end, some_member (IsOrphanAt (run_of run) (end_of run) run.strike) audit.orphans is.orphans (sym e)), λ has. refl)

pub orphan_at_moments : (run : RunParts) → run.judged ≡ AtEachMoment → (false ≡ true) ↔ HasOrphan run
orphan_at_moments run each = (λ h. absurd (false≢true h), λ has. absurd (let two : AtItsEnd ≡ AtEachMoment = sym has.0 ∙ each in cc))

-- the place of what is said is drawn, as it has one only in a log, of which all is
module _ (run : RunParts) (i : Position) (said : UnsafeReceipt) (is : IsSaidOf run i said) where
  drawn_at : (j : Judged) (at : Option ℕ) → IsSaidAt run i said j at → IfSome at (λ place. place < length (shown j run.entries))
  drawn_at AtEachMoment (Some place) moment = (let there = moment.3.1 in slice_get_within run.entries place there.0 there.1)
  drawn_at AtEachMoment None moment = tt
  drawn_at AtItsEnd None moment = tt
  drawn_at AtItsEnd (Some place) moment = absurd moment

  -- so is the place around which the run is drawn
  pub drawn_place : (asked : Option ℕ) → IfSome asked (λ place. place < length (shown_entries run))
      → IfSome (drawn_around (length (shown_entries run)) asked said.at) (λ place. place < length (shown_entries run))
  drawn_place (Some place) within = within
  drawn_place None within = by_count (nat_lt 200 (length (shown_entries run))) where
    by_count : (many : Bool) → IfSome (if many then said.at else None) (λ place. place < length (shown_entries run))
    by_count true = drawn_at run.judged said.at is.moment
    by_count false = tt
