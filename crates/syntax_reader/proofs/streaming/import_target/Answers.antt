use Rattle.syntax_reader.specs.Streaming as a
use Rattle.syntax_reader.proofs.streaming.import_target.Goals as goal

pub returns-in-Some-clause-is : goal.returns-in-Some-clause-is
returns-in-Some-clause-is c = a.target c.in-Some.ensures.is c.in_ok-named.ensures

pub returns-in-Some-uses-clause-is : goal.returns-in-Some-uses-clause-is
returns-in-Some-uses-clause-is c = a.skipped c.in-Some-uses.ensures.is
