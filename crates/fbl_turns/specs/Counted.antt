-- What workers have done, as data.
use Rattle.fbl_turns.specs.declared.counted.Drained.{Drained}
use Rattle.fbl_turns.specs.Runs.{Counts}

-- what is told of the workers, as the counts of a run
abbrev pub counts_of : Drained → Counts
counts_of d = record { by_worker = d.by_worker.items; undone_by_worker = d.undone_by_worker.items; full = d.full; memory = d.memory }
