use Rattle.stored_schema.proofs.SeenLaid.{seen-laid}
use Rattle.stored_schema.proofs.laws.seen_schemas_are_laid.Goals as goal

pub returns : goal.returns
returns c = seen-laid
