-- of the entries so far they are all
use Rattle.fbl_judge.specs.Views.{AreViewsOf}
use Rattle.fbl_judge.proofs.views.views_of.Given as goal

abbrev pub invariant-loop-place : goal.invariant-loop-place
invariant-loop-place l = AreViewsOf l.index l.place l.views.items
