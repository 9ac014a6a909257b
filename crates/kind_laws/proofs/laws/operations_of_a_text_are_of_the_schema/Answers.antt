use Rattle.kind_laws.proofs.Texts.{texts_ask}
use Rattle.kind_laws.proofs.laws.operations_of_a_text_are_of_the_schema.Goals as goal

pub returns : goal.returns
returns c = texts_ask
