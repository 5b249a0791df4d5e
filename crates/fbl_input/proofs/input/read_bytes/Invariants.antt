use Rattle.fbl_input.proofs.Common.{◌≡◌, ◌≤◌, ◌+◌, ◌-◌, true, cond, vec_len, Consumes, IsAtEnd}
use Rattle.fbl_input.proofs.input.read_bytes.Given as goal

abbrev pub invariant-loop-ended : goal.invariant-loop-ended
invariant-loop-ended g l = record {
  taken : Consumes (g.R.Read.remaining l.fn.reader) (g.R.Read.remaining l.reader) l.input.items;
  few : vec_len l.input ≤ 1048577;
  tries : l.interrupted ≤ 1000;
  whole : l.ended ≡ true → IsAtEnd (g.R.Read.remaining l.reader);
}

abbrev pub decreases-loop-ended : goal.decreases-loop-ended
decreases-loop-ended g l = (1048577 - vec_len l.input) + (1000 - l.interrupted) + cond l.ended 0 1
