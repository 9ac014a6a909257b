use Rattle.bind_expressions.proofs.Rightly.{is_right}
use Rattle.bind_expressions.proofs.laws.sorts_are_those_of_bound_expressions.Goals as goal

pub returns : goal.returns
returns c = is_right
