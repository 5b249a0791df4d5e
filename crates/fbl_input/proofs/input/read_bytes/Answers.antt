use Rattle.fbl_input.proofs.Common.{◌++◌, take, arith, common_steps}
use Rattle.fbl_input.proofs.Outputs.{consumes_more}
use Rattle.fbl_input.proofs.input.read_bytes.Goals as goal

pub returns-in_err-extend_from_slice-in-Ok-clause-stops : goal.returns-in_err-extend_from_slice-in-Ok-clause-stops
returns-in_err-extend_from_slice-in-Ok-clause-stops g c =
    let given = take c.in-Ok.n c.read.new.buf in (
      c.loop-ended.input.items ++ given,
      consumes_more _ _ _ _ given c.loop-ended.invariant.taken c.in-Ok.ensures.bytes.0,
      grind (arith, common_steps, c.min-want.ensures, c.len-in-loop-ended.ensures, c.in-Ok.ensures.bound),
    )
