use Rattle.parser.specs.Grammar.{inside}
use Rattle.parser.proofs.opening.inside.Goals as goal

pub returns : goal.returns
unfolding inside
returns c = cc
