use Rattle.fbl_scripts.specs.Scripts.{outline}
use Rattle.fbl_play.proofs.Recording.{record_play}
use Rattle.fbl_play.proofs.record.record_of_script.Goals as goal

pub returns : goal.returns
returns g c =
    record_play g.O.Observer.observes_before g.O.Observer.observes_after c.args.workers (outline c.args.script) _ _ c.in_ok-history.history c.in_ok-history.ensures
    c.record_by_name.result (rw (c.columns.ensures.columns, c.in_ok-config.ensures) at c.record_by_name.ensures)
