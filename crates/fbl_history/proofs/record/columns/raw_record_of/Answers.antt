use Rattle.std.proofs.Common.{arith, inl, inr, refl}
use Rattle.fbl_history.specs.Records.{so_far}
use Rattle.fbl_history.proofs.Recording.{stopped_err}
use Rattle.fbl_history.proofs.record.columns.raw_record_of.Goals as goal

pub returns-in_err-add_all-clause-refused : goal.returns-in_err-add_all-clause-refused
returns-in_err-add_all-clause-refused g c =
    stopped_err c.from_residual-in_err-add_all.result _ _ _
    (λ stops. (so_far c.in_ok-group.group c.in_ok-written.written, c.in_ok-group.ensures, c.in_ok-written.ensures, inl stops))
    c.from_residual-in_err-add_all.ensures.1 c.in_err-add_all.ensures.refused

pub returns-then-not-branch-clause-refused : goal.returns-then-not-branch-clause-refused
returns-then-not-branch-clause-refused g c = (
  so_far c.in_ok-group.group c.in_ok-written.written,
  c.in_ok-group.ensures,
  c.in_ok-written.ensures,
  inr (
    so_far c.add_all.new.group c.add_all.new.written,
    c.in_ok-add_all.ensures.recorded,
    (λ same.
        let yes = c.in_ok-is_trace.ensures.1 (rw c.trace.ensures.trace same) in
        grind (arith, yes, c.if-not-branch.true)),
  ),
)

pub returns-clause-recorded : goal.returns-clause-recorded
returns-clause-recorded g c = record {
  first = so_far c.in_ok-group.group c.in_ok-written.written;
  last = so_far c.add_all.new.group c.add_all.new.written;
  start = c.in_ok-group.ensures;
  begun = c.in_ok-written.ensures;
  all = c.in_ok-add_all.ensures.recorded;
  trace = rw c.trace.ensures.trace at (c.in_ok-is_trace.ensures.0 (grind (arith, c.if-not-branch.false)));
  members = c.members-members.ensures.value;
  f = c.f-f.ensures;
  entries = refl;
  strike = c.down.ensures.down;
}
