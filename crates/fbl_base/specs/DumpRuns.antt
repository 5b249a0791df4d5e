-- A dump and its run say the same.
use Rattle.std.specs.Prelude.{ℕ, ◌↔◌, List, map}
use Rattle.fbl_trace.specs.declared.trace.Determinant.{Determinant}
use Rattle.fbl_judge.specs.declared.audit.LostReceipt.{LostReceipt}
use Rattle.fbl_trace.specs.MemberSets.{Members}
use Rattle.fbl_trace.specs.Dumps.{IsDump, Parts}
use Rattle.fbl_trace.specs.Losses.{IsDumpOrphan}
use Rattle.fbl_runs.specs.Logs.{run_of, run_of_dump}
use Rattle.fbl_runs.specs.Runs.{IsSafe, MayBeLost}

-- what names the receipts
abbrev pub determinants : List LostReceipt → List Determinant
determinants receipts = map (λ (receipt : LostReceipt). receipt.determinant) receipts

-- the dump with these members in place of its strike set
abbrev pub struck_by : Members → Parts → Parts
struck_by members dump = record dump { strike = members }

-- a dump's run is safe exactly where, whichever members may be lost, the dump has no orphan
abbrev pub DumpLaw : Type 0
DumpLaw =
    (dump : Parts) → IsDump dump
    → IsSafe (run_of (run_of_dump dump)) ↔ ((members : Members) → MayBeLost (run_of (run_of_dump dump)) members → (q : ℕ) → ¬ (IsDumpOrphan (struck_by members dump) q))
