use Rattle.fbl_history.proofs.Recording.{another_ends, record_ends}
use Rattle.fbl_history.proofs.record.record_of.Goals as goal

pub returns-in_err-raw_record_of : goal.returns-in_err-raw_record_of
returns-in_err-raw_record_of g c =
    another_ends g.B.Behaviour.next c.args.config _ c.from_residual.result _ c.from_residual.ensures.1
    c.in_err-raw_record_of.ensures.refused

pub returns : goal.returns
returns g c =
    record_ends g.B.Behaviour.next c.args.config _ _ c.in_ok-raw_record_of.ensures.recorded c.checked.result c.checked.ensures.log
    c.checked.ensures.refused
