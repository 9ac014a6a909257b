use Rattle.database_meaning.proofs.Moments.{isolated_throughout}
use Rattle.database_meaning.proofs.laws.legal_traces_are_isolated.Goals as goal

pub returns : goal.returns
returns c = isolated_throughout
