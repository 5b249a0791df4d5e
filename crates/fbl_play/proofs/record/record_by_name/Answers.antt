use Rattle.fbl_play.proofs.record.record_by_name.Goals as goal

pub returns-in-Relay : goal.returns-in-Relay
returns-in-Relay c = rw c.in-Relay.is c.record_of.ensures

pub returns-in-Mix : goal.returns-in-Mix
returns-in-Mix c = rw c.in-Mix.is c.record_of-in-Mix.ensures
