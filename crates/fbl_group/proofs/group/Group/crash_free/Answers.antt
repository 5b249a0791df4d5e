use Rattle.fbl_law.proofs.CrashFree.{crashes_are_masked}
use Rattle.fbl_group.proofs.group.Group.crash_free.Goals as goal

pub returns : goal.returns
returns g c = crashes_are_masked _ _ g.B.Behaviour.next c.args.self.now g.met.B.Behaviour.laws.sends c.promises.ensures.sound
