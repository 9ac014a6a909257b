use Rattle.database_meaning.proofs.Moments.{prefix_legal}
use Rattle.database_meaning.proofs.laws.prefixes_are_legal.Goals as goal

pub returns : goal.returns
returns c = prefix_legal
