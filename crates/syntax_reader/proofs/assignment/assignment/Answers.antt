use Rattle.syntax_reader.specs.Plain as a
use Rattle.syntax_reader.proofs.assignment.assignment.Goals as goal

pub returns-in-Some-clause-is : goal.returns-in-Some-clause-is
returns-in-Some-clause-is c = rw c.in_ok-pairs.ensures (a.alone c.in-Some.ensures.is c.in_ok-one.ensures.is c.in_ok-quiet.ensures.is)

pub returns-clause-is : goal.returns-clause-is
returns-clause-is c = a.several c.in_ok-k.ensures.is c.in_ok-pairs-2.ensures.is c.in_ok-quiet-2.ensures.is
