use Rattle.fbl_pictures.proofs.Common.{◌≡◌, flat_map}
use Rattle.std.specs.Prelude.{string_bytes}
use Rattle.fbl_pictures.specs.Headings.{escape}
use Rattle.fbl_pictures.proofs.headings.escaped_text.Given as goal

abbrev pub invariant-loop-character : goal.invariant-loop-character
invariant-loop-character l = string_bytes l.written ≡ flat_map escape l.yielded
