use Rattle.db_machine.proofs.db.+new_sessions.Given as goal

abbrev pub decreases-new_sessions : goal.decreases-new_sessions
decreases-new_sessions l = l.count
