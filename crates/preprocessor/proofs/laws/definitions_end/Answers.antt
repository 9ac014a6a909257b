use Rattle.preprocessor.proofs.Added.{definitions_end}
use Rattle.preprocessor.proofs.laws.definitions_end.Goals as goal

pub returns : goal.returns
returns c = definitions_end c.args.texts.now
