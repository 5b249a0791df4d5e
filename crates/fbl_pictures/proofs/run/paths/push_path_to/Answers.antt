use Rattle.fbl_pictures.proofs.Common.{ℕ, [], ◌++◌, ◌≡◌, ◌∙◌, None, Option, Some, StandsAt, append-nil, inl, inr, path_shapes, refl, sym}
use Rattle.std.specs.Prelude.{IfNone}
use Rattle.fbl_judge.specs.declared.audit.LostReceipt.{LostReceipt}
use Rattle.fbl_runs.specs.HappenedBefore.{Position}
use Rattle.fbl_runs.specs.Logs.{RunParts}
use Rattle.fbl_pictures.specs.RunShapes.{IsCause}
use Rattle.fbl_pictures.specs.declared.run.finding.Finding.{Finding}
use Rattle.fbl_pictures.proofs.run.paths.push_path_to.Goals as goal

-- the receipt from which a path is drawn stands at its place
cause_at : (run : RunParts) (finding : Finding) (q : ℕ) (receipt : LostReceipt) → IsCause run finding q (Some receipt) → (i : Position) × StandsAt run.entries receipt.place i
cause_at run finding q receipt (inl none) = absurd (let no' : Some receipt ≡ None = none.1 in cc)
cause_at run finding q receipt (inr is) = (is.1.2.0, is.1.2.1)

of_none : {A : Type 0} (o : Option A) (P : Type 0) → ((x : A) → ¬ (o ≡ Some x)) → IfNone o P → P
of_none None P none is = is
of_none (Some x) P none is = absurd (none x refl)

pub returns-in_ok-push_path : goal.returns-in_ok-push_path
returns-in_ok-push_path c =
    let run = c.args.pasts.now in
    let w = c.args.window.now in
    let path = c.in-Some-2.path.items in
    let i = cause_at run c.args.finding.now c.args.member c.in-Some.cause c.in-Some.ensures in
    let led = (rw c.in-Some-2.is at c.in_ok-path.ensures.path i.0 i.1) in (
      path_shapes w run.entries path,
      (Some c.in-Some.cause, c.in-Some.ensures, inr (i.0, path, i.1, led, refl)),
      c.in_ok-push_path.ensures ∙ (λ j. c.args.shapes.now.items ++ path_shapes w (c.entries.ensures.entries j) (c.as_slice.ensures.value j)),
    )

pub returns-in_default-2 : goal.returns-in_default-2
returns-in_default-2 c = (
  [],
  (Some c.in-Some.cause, c.in-Some.ensures, inl (λ on. of_none c.in_ok-path.field-0 _ c.in_default-2.not-Some (c.in_ok-path.ensures.to_all on.0 on.1) on.2, refl)),
  sym (append-nil c.args.shapes.now.items),
)
