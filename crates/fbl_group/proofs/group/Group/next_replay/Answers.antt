use Rattle.fbl_group.proofs.Recovering.{◌∙◌, sym, arith, looked-up, from-member}
use Rattle.fbl_group.proofs.group.Group.next_replay.Goals as goal

pub index-requires-2 : goal.index-requires-2
index-requires-2 g c = omega (arith, c.recoverable.ensures.sound.down c.args.member c.requires.down, c.requires.numbered.size)

pub working-sender-requires : goal.working-sender-requires
working-sender-requires g c = record {
  size = rw c.as_slice.ensures.value c.requires.replaying.size;
  member =
      from-member c.recoverable.ensures.sound c.requires.replaying c.requires.down (c.from-place.ensures ∙ c.number.ensures.value) c.index.ensures c.requires.numbered c.index-2.ensures c.determinant.ensures c.received-rsn.ensures.value c.in-Some.is;
}

pub returns-in_default-log_note-clause-waits : goal.returns-in_default-log_note-clause-waits
returns-in_default-log_note-clause-waits g c =
    let looked = looked-up c.recoverable.ensures.sound c.requires.replaying c.requires.down (c.from-place.ensures ∙ c.number.ensures.value) c.index.ensures c.requires.numbered c.index-2.ensures c.determinant.ensures c.received-rsn.ensures.value in
    grind (arith, looked)

pub returns-clause-found : goal.returns-clause-found
returns-clause-found g c =
    sym (looked-up c.recoverable.ensures.sound c.requires.replaying c.requires.down (c.from-place.ensures ∙ c.number.ensures.value) c.index.ensures c.requires.numbered c.index-2.ensures c.determinant.ensures c.received-rsn.ensures.value) ∙ c.in-Some.is

pub index-requires : goal.index-requires
index-requires g c = omega (arith, c.recoverable.ensures.sound.down c.args.member c.requires.down, c.requires.replaying.size)

pub overflow_add-rsn : goal.overflow_add-rsn
overflow_add-rsn g c = omega (arith, c.received-rsn.ensures.kept.few_receipts)

pub returns-in_default-clause-waits : goal.returns-in_default-clause-waits
returns-in_default-clause-waits g c =
    let looked = looked-up c.recoverable.ensures.sound c.requires.replaying c.requires.down (c.from-place.ensures ∙ c.number.ensures.value) c.index.ensures c.requires.numbered c.index-2.ensures c.determinant.ensures c.received-rsn.ensures.value in
    λ d is. absurd (c.in_default.not-Some d (looked ∙ is))

pub returns-clause-sent : goal.returns-clause-sent
returns-clause-sent g c = sym (rw (c.working-sender.ensures, c.as_slice.ensures.value) at c.log_note.ensures) ∙ c.in-Some-log_note.is
