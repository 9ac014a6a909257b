use Rattle.row_indexes.proofs.Taking.{one_more_again, one_more_fresh}
use Rattle.row_indexes.proofs.laws.a_further_move_can_be_undone.Goals as goal

pub returns-clause-again : goal.returns-clause-again
returns-clause-again c = one_more_again

pub returns-clause-fresh : goal.returns-clause-fresh
returns-clause-fresh c = one_more_fresh
