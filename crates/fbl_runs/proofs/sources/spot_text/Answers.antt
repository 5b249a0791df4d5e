use Rattle.std.proofs.lemmas.Result.{IfOk-weaker}
use Rattle.std.specs.Prelude.{option_map, string_bytes}
use Rattle.fbl_runs.proofs.sources.spot_text.Goals as goal

pub returns : goal.returns
returns c =
    IfOk-weaker c.format.result _ _ (λ text is. record {
      own = c.spot-spot.result.place;
      name = option_map (λ name. name.now) c.spot-spot.result.file.name;
      spot = c.spot-spot.ensures;
      file = string_bytes c.in_ok-file.file;
      words = c.in_ok-file.ensures.ok;
      text_is = is;
    }) c.format.ensures.ok
