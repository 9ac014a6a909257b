use Rattle.syntax_reader.specs.Plain as a
use Rattle.syntax_reader.proofs.flow.run_arguments.Goals as goal

pub returns-in-Some-clause-is : goal.returns-in-Some-clause-is
returns-in-Some-clause-is c = rw c.new.ensures.items (a.no_list c.in-Some.ensures.is)

pub returns-in-Some-uses-clause-is : goal.returns-in-Some-uses-clause-is
returns-in-Some-uses-clause-is c = rw c.new-in-Some-uses.ensures.items (a.empty_list c.in_ok-k.ensures.is c.in-Some-uses.ensures.is)

pub returns-clause-is : goal.returns-clause-is
returns-clause-is c = rw c.in_ok-found.ensures.is.is (a.list c.in_ok-k.ensures.is c.in_ok-j.ensures.is c.in_ok-first.ensures.is c.in_ok-found.ensures.is.read)
