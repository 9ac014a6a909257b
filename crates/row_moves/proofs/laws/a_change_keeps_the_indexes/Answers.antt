use Rattle.row_moves.proofs.Changed.{changed}
use Rattle.row_moves.proofs.laws.a_change_keeps_the_indexes.Goals as goal

pub returns : goal.returns
returns c = changed
