use Rattle.db_core.proofs.decide.+list_key_waits.Given as goal

abbrev pub decreases-list_key_waits : goal.decreases-list_key_waits
decreases-list_key_waits g l = l.count
