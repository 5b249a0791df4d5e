use Rattle.fbl_records.proofs.Common.{arith}
use Rattle.serde_json.specs.Data.{no_members, put}
use Rattle.fbl_records.proofs.TokenLaws.{no_fields, object_member, object_next, object_over}
use Rattle.fbl_records.proofs.dump_tokens.next_fields.Goals as goal

pub loop-key-init : goal.loop-key-init
loop-key-init c = (no_members, no_fields, λ ms new rest. object_next 127 _ _ _ ms (omega arith) (rw c.in-Some-BeginObject.field-0-is at c.in-Some-BeginObject.ensures.value) rest)

pub loop-key-preserved : goal.loop-key-preserved
loop-key-preserved c =
    let found = c.loop-key.invariant.0 in
    let key = rw c.in-Ok-Some.field-0-is at c.in-Ok-Some.ensures.value in
    let next = c.in_ok-take-in-Ok-Some.ensures c.if-not-branch.false in (
      put c.in-Ok-Some.key.now next.0 found,
      next.2 found c.loop-key.invariant.1,
      λ ms new rest. c.loop-key.invariant.2 ms new (object_member 126 _ _ _ _ c.in-Ok-Some.key.now next.0 found ms key next.1 rest),
    )

pub returns-in-Ok-None : goal.returns-in-Ok-None
returns-in-Ok-None c =
    let found = c.loop-key.invariant.0 in
    (found, c.loop-key.invariant.2 found _ (object_over 126 _ _ found (rw c.in-Ok-None.field-0-is at c.in-Ok-None.ensures.value)), c.loop-key.invariant.1)
