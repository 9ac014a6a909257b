use Rattle.kind_laws.proofs.Texts.{texts_have}
use Rattle.kind_laws.proofs.laws.expressions_of_a_text_have_values_of_their_sorts.Goals as goal

pub returns : goal.returns
returns c = texts_have
