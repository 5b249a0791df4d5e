-- A log is what is read from the value that it is written as.
use Rattle.fbl_records.proofs.Common.{◌≡◌, ap, sym, arith, Ok, map, list_of, list_data, member_list, member_shape, number_data}
use Rattle.fbl_input.specs.Items.{entry_shape}
use Rattle.fbl_runs.specs.Logs.{IsRun, RunParts}
use Rattle.fbl_records.specs.LogLines.{IsLogRead, log_data}
use Rattle.fbl_records.specs.DumpLines.{IsReadBack, entry_data}
use Rattle.fbl_records.specs.Logs.{log_of_data, recorded_of_data}
use Rattle.fbl_runs.specs.declared.recording.Recording.TheVariants.{Log}
use Rattle.fbl_records.proofs.Values.{number_read, number_spelled, set_read}

pub log_read : (log : RunParts) → IsRun log → IsReadBack (λ es. list_data (map entry_data es)) (list_of entry_shape) 2 log.entries → IsReadBack (λ ms. list_data (map number_data ms)) (list_of member_shape) 1 (member_list log.strike) → IsLogRead log
unfolding log_data log_of_data
log_read log rules entries strike =
    let few = rules.lawful.size.1 in
    let fewer = rules.f.1 in
    let members = number_spelled log.members (omega (arith, few)) in
    let f = number_spelled log.f (omega (arith, few, fewer)) in
    let version = number_spelled 2 (omega arith) in
    let set = set_read log.strike (λ q h. let lt = rules.strike q h in omega (arith, few, lt)) strike.0 in (
      λ judged. rw (number_read 255 log.members (omega (arith, few)), number_read 255 log.f (omega (arith, few, fewer)), entries.0, set)
          (ap (λ j. Ok (record { members = log.members; f = log.f; entries = log.entries; strike = log.strike; judged = j })) (sym judged)),
      (rw (entries.1.0, f.0, members.0, strike.1.0, version.0), omega (arith, entries.1.1, strike.1.1)),
    )

-- a value with the key of the version is read as a log
pub recorded_read : (log : RunParts) → log_of_data (log_data log) ≡ Ok log → recorded_of_data (log_data log) ≡ Ok (Log log)
unfolding log_data
recorded_read log is = rw is
