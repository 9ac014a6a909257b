use Rattle.kind_laws.proofs.Runs.{variables_have}
use Rattle.kind_laws.proofs.laws.variables_have_values_of_their_kinds.Goals as goal

pub returns : goal.returns
returns c = variables_have
