use Rattle.fbl_input.proofs.Common.{◌≡◌, false, true, sym}
use Rattle.fbl_input.proofs.Lists.{json_read, json_refused}
use Rattle.fbl_input.proofs.shapes.json_in.Goals as goal

pub returns-in-Ok : goal.returns-in-Ok
returns-in-Ok c = sym (json_read c.args.bytes.now _ c.in-Ok.ensures.ok.0 c.in-Ok.ensures.ok.1)

pub returns-in-Err-2 : goal.returns-in-Err-2
returns-in-Err-2 c = sym (json_refused c.args.bytes.now (λ text. c.in-Err.ensures.err (λ m. let bad : false ≡ true = c.if-is_memory.ensures.1 m in cc) text))
