use Rattle.lexer.proofs.Runs.{tokens_one}
use Rattle.lexer.proofs.laws.tokens_are_one.Goals as goal

pub returns : goal.returns
returns c = λ one other a b. tokens_one c.args.text.now one other a b
