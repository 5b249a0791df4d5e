use Rattle.fbl_input.proofs.Common.{ℕ, length-take, length-drop, arith}
use Rattle.fbl_input.proofs.Outputs.{written_more}
use Rattle.fbl_input.proofs.output.put.Goals as goal

pub loop-done-preserved : goal.loop-done-preserved
loop-done-preserved g c = record {
  within = omega (arith, c.in-Ok.ensures.bound, length-take {A = ℕ}, length-drop {A = ℕ});
  written = written_more _ _ _ _ _ _ c.loop-done.invariant.written c.in-Ok.ensures.bytes;
}
