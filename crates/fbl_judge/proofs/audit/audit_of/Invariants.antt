-- the receipts so far that are lost, and those of the rest, are all; and the members depend on those so far
use Rattle.fbl_judge.proofs.Common.{List, ◌++◌, drop}
use Rattle.fbl_judge.specs.Audits.{AreLost, AreNamed}
use Rattle.fbl_judge.specs.declared.audit.LostReceipt.{LostReceipt}
use Rattle.fbl_judge.proofs.Audits.{AreDependents}
use Rattle.fbl_judge.proofs.audit.audit_of.Given as goal

abbrev pub invariant-loop-place : goal.invariant-loop-place
invariant-loop-place l = record {
  lost : (rest : List LostReceipt) → AreLost l.pasts l.place (drop l.place l.pasts.entries) rest → AreLost l.pasts 0 l.pasts.entries (l.lost.items ++ rest);
  named : AreNamed l.pasts l.lost.items;
  dependents : AreDependents l.pasts l.place l.dependents;
}
