-- The exit statuses of the program.
use Rattle.std.specs.Prelude.{◌≡◌, ◌≤◌, ◌⊎◌, ℕ, Bool, true, false, Result, Ok, Err}
use Rattle.fbl_trace.specs.declared.dump.refusal.DumpRefusal.TheVariants as dump
use Rattle.fbl_input.specs.declared.fault.RunFault.{RunFault}
use Rattle.fbl_input.specs.declared.fault.RunFault.TheVariants as faults
use Rattle.fbl_order.specs.declared.fault.OrderFault.TheVariants as orders
use Rattle.fbl_order.specs.declared.files.FilesDiffer.TheVariants as files
use Rattle.fbl_order.specs.declared.recordings.MergeFault.{MergeFault}
use Rattle.fbl_order.specs.declared.recordings.MergeFault.TheVariants as merges

-- 3 where a read or a write failed, 4 where memory ran out, and else 2
abbrev pub fault_status : RunFault → ℕ
fault_status faults.Read = 3
fault_status faults.Write = 3
fault_status faults.Memory = 4
fault_status e = 2

-- 0 where there was no fault and all is well, and 1 where not all is
abbrev pub status_after : Result Bool RunFault → ℕ
status_after (Ok true) = 0
status_after (Ok false) = 1
status_after (Err e) = fault_status e

-- 4 where memory ran out for what files record together, and else 2
abbrev pub merge_status : MergeFault → ℕ
merge_status (merges.Files files.Memory) = 4
merge_status (merges.Order (orders.Refused dump.Memory breach)) = 4
merge_status fault = 2

-- a file could not be opened, read or written, or memory ran out
abbrev pub IsChannelStatus : ℕ → Type 0
IsChannelStatus status = (status ≡ 3) ⊎ (status ≡ 4)

-- the status of the work stands, but where all was written, which the file may then fail to keep
abbrev pub IsSettled : ℕ → ℕ → Type 0
IsSettled given status = (status ≡ given) ⊎ ((given ≤ 1) × IsChannelStatus status)
