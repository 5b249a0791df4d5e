use Rattle.fbl_pictures.proofs.Common.{Option, inl, inr, false≢true, IfOk-weaker, arith, subst}
use Rattle.std.specs.Prelude.{MatchOption}
use Rattle.fbl_judge.specs.Unsafe.{IsFirstUnsafe}
use Rattle.fbl_judge.specs.declared.check.UnsafeReceipt.{UnsafeReceipt}
use Rattle.fbl_judge.specs.declared.undone.UndoneReceipt.{UndoneReceipt}
use Rattle.fbl_runs.specs.Logs.{run_of}
use Rattle.fbl_runs.specs.Runs.{IsSafe}
use Rattle.fbl_pictures.proofs.Moments.{orphan_at_moments}
use Rattle.fbl_pictures.proofs.Undones.{safe_none}
use Rattle.fbl_pictures.specs.RunPictures.{HasOrphan, IsFirstUndone, LeavesNone}
use Rattle.fbl_pictures.proofs.run.moment_text.Goals as goal

pub returns-in-Some-None : goal.returns-in-Some-None
returns-in-Some-None c =
    let run = c.args.pasts.now in
    let no_orphan : ¬ (HasOrphan run) = λ has. false≢true ((orphan_at_moments run c.requires.judged).1 has) in
    let leaves : LeavesNone run = subst (λ (o : Option UndoneReceipt). MatchOption o (LeavesNone run) (IsFirstUndone run)) c.in-Some-None.is-1 c.in_ok-first_undone.ensures in
    IfOk-weaker c.said_text.result _ _ (λ text drawn. inr (inl (
      no_orphan,
      (c.in-Some-None.said, record { first = c.in-Some-None.ensures; none = inr (λ place i before there. leaves place i there) }, drawn),
    ))) c.said_text.ensures

pub returns-in-None-Some : goal.returns-in-None-Some
returns-in-None-Some c =
    let run = c.args.pasts.now in
    let first : IsFirstUndone run c.in-None-Some.undone = subst (λ (o : Option UndoneReceipt). MatchOption o (LeavesNone run) (IsFirstUndone run)) c.in-None-Some.is-1 c.in_ok-first_undone.ensures in
    let safe : IsSafe (run_of run) = subst (λ (o : Option UnsafeReceipt). MatchOption o (IsSafe (run_of run)) (IsFirstUnsafe run)) c.in-None-Some.is-0 c.first_unsafe.ensures in
    IfOk-weaker c.undone_text.result _ _ (λ text drawn. inr (inr (
      c.in-None-Some.undone,
      record { judged = c.requires.judged; first = first; safe = λ place i before there. safe_none run safe i },
      drawn,
    ))) c.undone_text.ensures

pub returns-then-undone-said : goal.returns-then-undone-said
returns-then-undone-said c =
    let run = c.args.pasts.now in
    let first : IsFirstUndone run c.in-Some-Some.undone = subst (λ (o : Option UndoneReceipt). MatchOption o (LeavesNone run) (IsFirstUndone run)) c.in-Some-Some.is-1 c.in_ok-first_undone.ensures in
    let unsafe : IsFirstUnsafe run c.in-Some-Some.said = c.in-Some-Some.ensures in
    let earlier = c.if-undone-said.true in
    IfOk-weaker c.undone_text-then-undone-said.result _ _ (λ text drawn. inr (inr (
      c.in-Some-Some.undone,
      record { judged = c.requires.judged; first = first; safe = λ place i before there. unsafe.safe place i (omega (arith, before, earlier)) there },
      drawn,
    ))) c.undone_text-then-undone-said.ensures

pub returns-else-undone-said : goal.returns-else-undone-said
returns-else-undone-said c =
    let run = c.args.pasts.now in
    let no_orphan : ¬ (HasOrphan run) = λ has. false≢true ((orphan_at_moments run c.requires.judged).1 has) in
    let first : IsFirstUndone run c.in-Some-Some.undone = subst (λ (o : Option UndoneReceipt). MatchOption o (LeavesNone run) (IsFirstUndone run)) c.in-Some-Some.is-1 c.in_ok-first_undone.ensures in
    let later = c.if-undone-said.false in
    IfOk-weaker c.said_text-else-undone-said.result _ _ (λ text drawn. inr (inl (
      no_orphan,
      (c.in-Some-Some.said, record { first = c.in-Some-Some.ensures; none = inr (λ place i before there. first.none place i (omega (arith, before, later)) there) }, drawn),
    ))) c.said_text-else-undone-said.ensures
