-- so far they are the views, and those with the restart
use Rattle.fbl_judge.proofs.Common.{take}
use Rattle.fbl_judge.specs.Views.{AreWith}
use Rattle.fbl_judge.proofs.views.with_next.Given as goal

abbrev pub invariant-loop-view : goal.invariant-loop-view
invariant-loop-view l = AreWith (take l.view-index l.views) l.restart l.more.items
