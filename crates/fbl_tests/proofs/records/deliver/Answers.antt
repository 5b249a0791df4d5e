use Rattle.fbl_member.proofs.Once.{IsOnce-none}
use Rattle.fbl_tests.proofs.records.deliver.Goals as goal

pub new-wire-requires : goal.new-wire-requires
new-wire-requires c = rw c.none.ensures IsOnce-none
