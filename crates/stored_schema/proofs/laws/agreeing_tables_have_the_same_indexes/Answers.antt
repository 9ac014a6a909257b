use Rattle.stored_schema.proofs.SameIndexes.{index-seen}
use Rattle.stored_schema.proofs.laws.agreeing_tables_have_the_same_indexes.Goals as goal

pub returns : goal.returns
returns c = index-seen
