use Rattle.kind_laws.proofs.Runs.{asked_of_schema}
use Rattle.kind_laws.proofs.laws.operations_are_of_the_schema.Goals as goal

pub returns : goal.returns
returns c = asked_of_schema
