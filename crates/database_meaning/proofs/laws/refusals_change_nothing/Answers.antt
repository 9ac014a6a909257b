use Rattle.database_meaning.proofs.Unchanged.{unchanged_by}
use Rattle.database_meaning.proofs.laws.refusals_change_nothing.Goals as goal

pub returns : goal.returns
returns c = unchanged_by
