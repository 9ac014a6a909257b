use Rattle.source_reader.specs.Sources.{of_tokens}
use Rattle.source_reader.proofs.source.tokens_of.Goals as goal

pub returns-in-Err-Broken-clause-broken : goal.returns-in-Err-Broken-clause-broken
returns-in-Err-Broken-clause-broken c = λ schema rule place e. of_tokens (c.in-Err-Broken.ensures.refused rule place cc)
