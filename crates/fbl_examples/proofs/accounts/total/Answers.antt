use Rattle.fbl_examples.proofs.accounts.total.Goals as goal

pub returns-clause-whole : goal.returns-clause-whole
returns-clause-whole c nobody = rw (c.sum_of_states.ensures.value, c.from.ensures, c.value_in_flight.ensures) (c.conserved.ensures.whole nobody)

pub returns-clause-most : goal.returns-clause-most
returns-clause-most c = rw (c.sum_of_states.ensures.value, c.from.ensures, c.value_in_flight.ensures) c.conserved.ensures.most
