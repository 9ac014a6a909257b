use Rattle.row_moves.proofs.Returned.{returned}
use Rattle.row_moves.proofs.laws.going_back_keeps_the_indexes.Goals as goal

pub returns : goal.returns
returns c = λ old new client mark was now moved left h b sound places keepers count own others. returned old new client mark was now moved left h b sound places keepers count own others
