use Rattle.fbl_group.proofs.Common.{◌++◌, ◌∙◌, List, ap, sym, refl, length, map, subst, at_drop_more, gathered_all, saved_tables, MemberRecord, IsSound, GroupRecord, drop_of_length-le}
use Rattle.fbl_group.proofs.group.Group.gather_tables.Goals as goal

pub loop-record-preserved : goal.loop-record-preserved
loop-record-preserved g c =
    let r = c.args.self.now in
    let saved = saved_tables r.outside r.down r.checkpoints (length r.checkpoints) in
    let items = c.deref-record-items.result.now in
    let next = at_drop_more (λ (ms : List (MemberRecord _ _)). gathered_all c.loop-record.gathered (map (λ (m : MemberRecord _ _). m.table) ms ++ saved)) items
    c.loop-record.record-index c.record-item.result c.loop-record-test.true in
    rw (c.in_ok-gather.ensures.gathered, c.table.ensures) (sym (rw (← c.record-item.is) at next) ∙ c.loop-record.invariant)

pub returns : goal.returns
returns g c =
    let all = rw (drop_of_length-le c.deref-record-items.result.now c.loop-record-test.false) at c.loop-record.invariant in
    rw (c.mark_all.ensures, c.in_ok-gather_checkpoints.ensures, ap (λ (x : GroupRecord _ _). x.down) c.self.view_is, ← (subst (IsSound g.B.Behaviour.next) c.self.view_is c.self.invariant).checkpoints, all) refl

pub loop-record-init : goal.loop-record-init
loop-record-init g c = rw (c.requires, c.deref-record-items.ensures.value, ap (λ (x : GroupRecord _ _). x.members) c.self.view_is) refl
