use Rattle.syntax_reader.specs.Nodes as a
use Rattle.syntax_reader.proofs.nodes.word_there.Goals as goal

pub returns-in-Some-clause-is : goal.returns-in-Some-clause-is
returns-in-Some-clause-is c = a.word_there c.in-Some.ensures.is

pub returns-clause-is : goal.returns-clause-is
returns-clause-is c = a.no_word c.in_ok-k.ensures.is
