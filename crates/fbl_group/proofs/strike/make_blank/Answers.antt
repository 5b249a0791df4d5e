use Rattle.fbl_group.proofs.strike.make_blank.Goals as goal

pub returns : goal.returns
returns g c = c.blank.ensures
