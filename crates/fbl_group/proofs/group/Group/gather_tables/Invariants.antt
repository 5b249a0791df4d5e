use Rattle.fbl_group.proofs.Common.{◌≡◌, [], ◌++◌, drop, length, map, MemberRecord, gathered_all, saved_tables}
use Rattle.fbl_group.proofs.group.Group.gather_tables.Given as goal

abbrev pub invariant-loop-record : goal.invariant-loop-record
invariant-loop-record g l =
    let saved = saved_tables l.self.outside l.self.down l.self.checkpoints (length l.self.checkpoints) in
    gathered_all l.gathered (map (λ (m : MemberRecord _ _). m.table) (drop l.record-index l.record-items) ++ saved)
    ≡ gathered_all [] (map (λ (m : MemberRecord _ _). m.table) l.self.members ++ saved)
