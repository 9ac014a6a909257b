use Rattle.syntax_reader.specs.Nodes as a
use Rattle.syntax_reader.proofs.nodes.name_there.Goals as goal

pub returns-in-Some-clause-is : goal.returns-in-Some-clause-is
returns-in-Some-clause-is c = a.name_there c.in-Some.ensures.is c.in_ok-word.ensures

pub returns-clause-is : goal.returns-clause-is
returns-clause-is c = a.no_name c.in_ok-k.ensures.is
