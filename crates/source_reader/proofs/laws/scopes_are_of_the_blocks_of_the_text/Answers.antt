use Rattle.source_reader.proofs.Placed.{same_keywords}
use Rattle.source_reader.proofs.laws.scopes_are_of_the_blocks_of_the_text.Goals as goal

pub returns : goal.returns
returns c = λ syntax_of. same_keywords syntax_of
