use Rattle.preprocessor.proofs.Plain.{plain_source}
use Rattle.preprocessor.proofs.laws.plain_text_is_itself.Goals as goal

pub returns : goal.returns
returns c = plain_source c.args.texts.now c.requires.plain (c.requires.short.short 0)
