use Rattle.stored_schema.proofs.LaidOut.{laid-own, laid-text}
use Rattle.stored_schema.proofs.laws.new_schemas_are_own.Goals as goal

pub returns : goal.returns
returns c = record { own = laid-own; text = laid-text }
