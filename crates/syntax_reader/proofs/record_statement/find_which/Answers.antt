use Rattle.syntax_reader.specs.Plain as a
use Rattle.syntax_reader.proofs.record_statement.find_which.Goals as goal

pub returns-in-Some : goal.returns-in-Some
returns-in-Some c = a.first c.in-Some.ensures.is

pub returns-in-Some-uses : goal.returns-in-Some-uses
returns-in-Some-uses c = a.last c.in-Some-uses.ensures.is

pub returns-in-Some-uses-2 : goal.returns-in-Some-uses-2
returns-in-Some-uses-2 c = a.next c.in-Some-uses-2.ensures.is

pub returns-in-Some-uses-3 : goal.returns-in-Some-uses-3
returns-in-Some-uses-3 c = a.previous c.in-Some-uses-3.ensures.is

pub returns-in-Some-uses-4 : goal.returns-in-Some-uses-4
returns-in-Some-uses-4 c = a.current c.in-Some-uses-4.ensures.is

pub returns : goal.returns
returns c = a.only c.in_ok-k.ensures.is
