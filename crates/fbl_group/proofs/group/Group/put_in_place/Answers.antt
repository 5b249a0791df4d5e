use Rattle.fbl_group.proofs.Recovering.{◌≡◌, length, arith, rows, ap, subst, sym, ◌∙◌, GroupRecord, IsSound, group_recovery_keeps, size, short-again, all-left, fewer, undone-few, undone-fits, recovers}
use Rattle.fbl_group.proofs.group.Group.put_in_place.Goals as goal

pub messages-resent-requires : goal.messages-resent-requires
messages-resent-requires g c = record {
  shape = rw (c.members-n.ensures.value ∙ ap (λ (r : GroupRecord _ _). r.config.members) c.self.view_is) c.in_ok-again.ensures.shape;
  few = short-again c.self.invariant c.self.view_is c.requires.ready (rows c.in_ok-again.again) c.members-n.ensures.value (rw c.as_slice.ensures.value at c.in_ok-again.ensures.each);
  members = rw c.members-n.ensures.value c.self.invariant.config.members.1;
}

pub overflow_cast-resent : goal.overflow_cast-resent
overflow_cast-resent g c = omega (arith, c.messages-resent.ensures.few)

pub receipts_left-requires : goal.receipts_left-requires
receipts_left-requires g c same =
    let all : c.len-events.result ≡ length c.self.inside.trace.items = omega (arith, c.len-events.ensures, c.self.inside.trace.ok.0) in
    all-left c.self.invariant c.self.view_is c.requires.ready c.requires.down c.cut.ensures c.receipt_count-before.ensures all c.as_slice-2.ensures.value same

pub overflow_sub-undone : goal.overflow_sub-undone
overflow_sub-undone g c = fewer c.self.invariant c.self.view_is c.requires.ready c.requires.down c.cut.ensures c.receipt_count-before.ensures c.receipts_left.ensures c.as_slice-2.ensures.value

pub put_back-requires : goal.put_back-requires
put_back-requires g c = record {
  members = omega (arith, c.self.inside.members.ok.0, c.self.invariant.members, c.members-n.ensures.value);
  records = omega (arith, c.args.rebuilt.now.records.ok.0, size c.self.invariant c.self.view_is c.requires.ready, c.members-n.ensures.value);
  few = rw c.members-n.ensures.value c.self.invariant.config.members.1;
}

pub replace-requires : goal.replace-requires
replace-requires g c = record {
  shape = rw c.members-n.ensures.value c.self.invariant.shape;
  again = rw (c.members-n.ensures.value ∙ ap (λ (r : GroupRecord _ _). r.config.members) c.self.view_is) c.in_ok-again.ensures.shape;
  few = rw c.members-n.ensures.value c.self.invariant.config.members.1;
}

pub overflow_add-self : goal.overflow_add-self
overflow_add-self g c = undone-fits c.self.invariant c.self.view_is c.requires.ready c.requires.down c.cut.ensures c.receipt_count-before.ensures c.receipts_left.ensures c.as_slice-2.ensures.value c.self.ranges.1.1.1.1.1.1.0.1

pub overflow_cast-result : goal.overflow_cast-result
overflow_cast-result g c = undone-few c.self.invariant c.self.view_is c.requires.ready c.requires.down c.cut.ensures c.receipt_count-before.ensures c.receipts_left.ensures c.as_slice-2.ensures.value

pub returns-clause-recovered : goal.returns-clause-recovered
returns-clause-recovered g c =
    recovers c.self.invariant c.self.view_is c.requires.ready c.requires.down c.cut.ensures
    c.receipt_count-before.ensures c.receipts_left.ensures c.as_slice-2.ensures.value (rows c.in_ok-again.again) c.members-n.ensures.value
    (rw c.as_slice.ensures.value at c.in_ok-again.ensures.each) c.put_back.ensures c.replace.ensures c.empty-self-inside.ensures
    c.messages-resent.ensures.messages

pub invariant_of-self : goal.invariant_of-self
invariant_of-self g c = group_recovery_keeps g.B.Behaviour.next _ _ (returns-clause-recovered g c).recovery (subst (IsSound g.B.Behaviour.next) c.self.view_is c.self.invariant)
