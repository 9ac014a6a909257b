use Rattle.row_indexes.proofs.Taking.{grown_again, grown_fresh}
use Rattle.row_indexes.proofs.laws.earlier_changes_can_be_undone.Goals as goal

pub returns-clause-again : goal.returns-clause-again
returns-clause-again c = grown_again

pub returns-clause-fresh : goal.returns-clause-fresh
returns-clause-fresh c = grown_fresh
