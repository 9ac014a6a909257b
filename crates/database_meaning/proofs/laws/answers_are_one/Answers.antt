use Rattle.database_meaning.proofs.OneAnswer.{one_answer_legal}
use Rattle.database_meaning.proofs.laws.answers_are_one.Goals as goal

pub returns : goal.returns
returns c = one_answer_legal
