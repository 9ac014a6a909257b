use Rattle.stored_schema.proofs.Itself.{own-seen}
use Rattle.stored_schema.proofs.laws.own_schemas_see_themselves.Goals as goal

pub returns : goal.returns
returns c = own-seen
