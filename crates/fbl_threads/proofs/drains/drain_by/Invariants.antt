use Rattle.fbl_threads.proofs.drains.drain_by.Given as goal

-- the group given, the plan, and whether records are kept
abbrev pub ghosts-run-O-Origin : goal.ghosts-run-O-Origin
ghosts-run-O-Origin g a = record { start = λ _. a.group; plan = a.request.now.plan.now; records = a.request.now.keeps }

-- the workers and turns asked for, and the claims that were made
abbrev pub ghosts-run-O-Workers : goal.ghosts-run-O-Workers
ghosts-run-O-Workers g a = record { workers = a.request.now.workers; turns = a.request.now.turns; claims = a.claims.0 }

-- the new ledger
abbrev pub ghosts-run-O-Ledger : goal.ghosts-run-O-Ledger
ghosts-run-O-Ledger g a = record { name = a.blank.name; parts = a.blank.parts }
