use Rattle.std.proofs.Common.{map, take}
use Rattle.std.specs.List.{AllZip}
use Rattle.fbl_program.specs.Jobs.{Records}
use Rattle.fbl_program.proofs.jobs.files_at.Given as goal

abbrev pub invariant-loop-name : goal.invariant-loop-name
invariant-loop-name g l = AllZip Records (map (g.S.Streams.input l.streams) (map (λ name. name.now) (take l.name-index l.names))) l.files.items
