use Rattle.fbl_runs.proofs.Common.{◌≡◌, ◌∙◌, arith, ap, length, sym}
use Rattle.std.proofs.Common.{rules, vec_len}
use Rattle.std.specs.Map.{lookup}
use Rattle.fbl_trace.specs.Events.{same_determinant}
use Rattle.fbl_runs.proofs.RecordLaws.{none_behind}
use Rattle.fbl_runs.proofs.records.RecordPlaces.of.Goals as goal

pub loop-place-init : goal.loop-place-init
loop-place-init c =
    let nexts = c.in_ok-vec.field-0 in
    let tie : vec_len nexts ≡ length nexts.items = search rules in
    record {
      within = omega arith;
      records = none_behind c.args.entries.now _ (sym tie ∙ c.in_ok-vec.ensures.len) (λ d. ap (lookup (same_determinant d)) c.new.ensures.empty);
    }
