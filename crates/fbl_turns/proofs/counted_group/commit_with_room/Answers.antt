use Rattle.fbl_turns.proofs.counted_group.commit_with_room.Goals as goal

pub returns-in-Err-clause-refused : goal.returns-in-Err-clause-refused
returns-in-Err-clause-refused g c = c.in_ok-plan_commit.ensures.planned.0

pub returns-clause-committed : goal.returns-clause-committed
returns-clause-committed g c = (c.in_ok-commit.ensures.delivered.0, (_, c.in_ok-commit.ensures.delivered.1))

pub returns-in_err-commit-clause-same : goal.returns-in_err-commit-clause-same
returns-in_err-commit-clause-same g c = c.reserve.ensures.same

pub returns-clause-same : goal.returns-clause-same
returns-clause-same g c = c.reserve.ensures.same

pub returns-clause-room : goal.returns-clause-room
returns-clause-room g c = c.in_default.ensures.room
