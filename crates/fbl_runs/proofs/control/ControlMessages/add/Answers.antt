use Rattle.fbl_runs.proofs.Common.{Tell, Told, ControlMessage, Bool}
use Rattle.std.specs.HashSet as hash_set
use Rattle.fbl_runs.specs.ControlMessages.{same_control}
use Rattle.fbl_runs.proofs.ControlLaws.{gains_none, gains_said, one_said_tell, one_said_told, tell_no_told, told_more, told_no_tell}
use Rattle.fbl_runs.proofs.control.ControlMessages.add.Goals as goal

pub returns-in_ok-insert-in-Tell : goal.returns-in_ok-insert-in-Tell
returns-in_ok-insert-in-Tell c before has =
    let e = c.args.entry.now in
    let m = c.in-Tell.message in
    let old = c.args.self.now in
    let tells : ControlMessage → Bool = hash_set.contains same_control old.tells in
    let tolds : ControlMessage → Bool = hash_set.contains same_control old.tolds in
    let new : ControlMessage → Bool = hash_set.contains same_control c.insert.new.self in
    record {
      tells = told_more before e Tell tells new has.tells (gains_said Tell one_said_tell e m c.in-Tell.is tells new c.in_ok-insert-in-Tell.ensures.updates.0);
      tolds = told_more before e Told tolds tolds has.tolds (gains_none Told e (tell_no_told e m c.in-Tell.is) tolds);
    }

pub returns-in_ok-insert-in-Told : goal.returns-in_ok-insert-in-Told
returns-in_ok-insert-in-Told c before has =
    let e = c.args.entry.now in
    let m = c.in-Told.message in
    let old = c.args.self.now in
    let tells : ControlMessage → Bool = hash_set.contains same_control old.tells in
    let tolds : ControlMessage → Bool = hash_set.contains same_control old.tolds in
    let new : ControlMessage → Bool = hash_set.contains same_control c.insert-in-Told.new.self in
    record {
      tells = told_more before e Tell tells tells has.tells (gains_none Tell e (told_no_tell e m c.in-Told.is) tells);
      tolds = told_more before e Told tolds new has.tolds (gains_said Told one_said_told e m c.in-Told.is tolds new c.in_ok-insert-in-Told.ensures.updates.0);
    }

pub returns-in_default : goal.returns-in_default
returns-in_default c before has =
    let e = c.args.entry.now in
    let old = c.args.self.now in
    let tells : ControlMessage → Bool = hash_set.contains same_control old.tells in
    let tolds : ControlMessage → Bool = hash_set.contains same_control old.tolds in
    record {
      tells = told_more before e Tell tells tells has.tells (gains_none Tell e c.in_default.not-Tell tells);
      tolds = told_more before e Told tolds tolds has.tolds (gains_none Told e c.in_default.not-Told tolds);
    }
