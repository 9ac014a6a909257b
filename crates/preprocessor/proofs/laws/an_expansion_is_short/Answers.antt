use Rattle.preprocessor.proofs.Shorts.{expansions_are_short}
use Rattle.preprocessor.proofs.laws.an_expansion_is_short.Goals as goal

pub returns : goal.returns
returns c = expansions_are_short c.args.texts.now
