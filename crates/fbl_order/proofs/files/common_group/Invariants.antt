use Rattle.std.proofs.Common.{ℕ, ◌≡◌, ◌<◌, take}
use Rattle.std.specs.FinSet as set
use Rattle.std.specs.List.{list_any}
use Rattle.fbl_order.specs.Files.{AgreesAt}
use Rattle.fbl_order.proofs.files.common_group.Given as goal

abbrev pub invariant-loop-file : goal.invariant-loop-file
invariant-loop-file g l = record {
  agree : (k : ℕ) → k < l.file → AgreesAt g.P.Grouped.group_of l.files k;
  strike : (q : ℕ) → set.contains l.strike q ≡ list_any (λ file. set.contains (g.P.Grouped.group_of file).strike q) (take l.file l.files);
}
