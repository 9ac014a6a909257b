use Rattle.kind_laws.proofs.Runs.{fields_have}
use Rattle.kind_laws.proofs.laws.fields_have_values_of_their_kinds.Goals as goal

pub returns : goal.returns
returns c = fields_have
