use Rattle.fbl_play.proofs.engine.run_script.Goals as goal

pub returns-in-Relay : goal.returns-in-Relay
returns-in-Relay g c = rw (c.in-Relay.is, ← c.as_slice-commands.ensures.value) c.run_commands.ensures

pub returns : goal.returns
returns g c = rw (c.in-Mix.is, ← c.as_slice-commands.ensures.value) c.run_commands-in-Mix.ensures
