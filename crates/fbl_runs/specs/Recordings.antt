-- What is recorded of a run: a dump or a log.
use Rattle.fbl_trace.specs.Dumps.{IsDump, parts_of}
use Rattle.fbl_runs.specs.Logs.{IsLog, parts_of_log}
use Rattle.fbl_runs.specs.declared.recording.RawRecording.{RawRecording}
use Rattle.fbl_runs.specs.declared.recording.RawRecording.TheVariants as raws
use Rattle.fbl_runs.specs.declared.recording.Recording.{Recording}
use Rattle.fbl_runs.specs.declared.recording.Recording.TheVariants as parts

-- the parts, whether or not they obey the rules
abbrev pub recorded_parts : RawRecording → Recording
recorded_parts (raws.Dump raw) = parts.Dump (parts_of raw)
recorded_parts (raws.Log raw) = parts.Log (parts_of_log raw)

-- the parts obey the rules of their kind
abbrev pub ObeysRules : Recording → Type 0
ObeysRules (parts.Dump dump) = IsDump dump
ObeysRules (parts.Log log) = IsLog log
