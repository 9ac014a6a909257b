use Rattle.kind_laws.proofs.Runs.{expressions_have, expressions_keep}
use Rattle.kind_laws.proofs.laws.expressions_have_values_of_their_sorts.Goals as goal

pub returns-clause-keeps : goal.returns-clause-keeps
returns-clause-keeps c = expressions_keep

pub returns-clause-has : goal.returns-clause-has
returns-clause-has c = expressions_have
