-- A dump is what is read from the value that it is written as.
use Rattle.fbl_records.proofs.Common.{arith, map, list_of, list_data, Parts, IsDump, member_list, member_shape, event_data, pair_data, number_data, event_shape, pair_shape}
use Rattle.fbl_records.specs.Dumps.{parts_of_data}
use Rattle.fbl_records.specs.DumpLines.{IsDumpRead, IsReadBack, dump_data}
use Rattle.fbl_records.proofs.Values.{number_read, number_spelled, set_read}

pub dump_read : (dump : Parts) → IsDump dump → IsReadBack (λ es. list_data (map event_data es)) (list_of event_shape) 2 dump.events → IsReadBack (λ hs. list_data (map pair_data hs)) (list_of pair_shape) 2 dump.held
    → IsReadBack (λ ms. list_data (map number_data ms)) (list_of member_shape) 1 (member_list dump.strike) → IsDumpRead dump
unfolding dump_data parts_of_data
dump_read dump rules events held strike =
    let few = rules.members.1 in
    let fewer = rules.f.1 in
    let members = number_spelled dump.members (omega (arith, few)) in
    let f = number_spelled dump.f (omega (arith, few, fewer)) in
    let set = set_read dump.strike (λ q h. let lt = rules.strike q h in omega (arith, few, lt)) strike.0 in (
      rw (number_read 255 dump.members (omega (arith, few)), number_read 255 dump.f (omega (arith, few, fewer)), events.0, held.0, set),
      (rw (events.1.0, f.0, held.1.0, members.0, strike.1.0), omega (arith, events.1.1, held.1.1, strike.1.1)),
    )
