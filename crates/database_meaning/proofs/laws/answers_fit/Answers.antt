use Rattle.database_meaning.proofs.AnswersFit.{answers_fit}
use Rattle.database_meaning.proofs.laws.answers_fit.Goals as goal

pub returns : goal.returns
returns c = answers_fit
