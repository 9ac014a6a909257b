use Rattle.syntax_reader.specs.Definitions as a
use Rattle.syntax_reader.proofs.definition.word_literal.Goals as goal

pub returns-in-Some-clause-is : goal.returns-in-Some-clause-is
returns-in-Some-clause-is c = a.yes c.in-Some.ensures.is c.in_ok-at.ensures

pub returns-in-Some-uses-clause-is : goal.returns-in-Some-uses-clause-is
returns-in-Some-uses-clause-is c = a.no c.in-Some-uses.ensures.is c.in_ok-at-2.ensures

pub returns-in-Some-uses-2-clause-is : goal.returns-in-Some-uses-2-clause-is
returns-in-Some-uses-2-clause-is c = a.truth c.in-Some-uses-2.ensures.is c.in_ok-at-3.ensures

pub returns-in-Some-uses-3-clause-is : goal.returns-in-Some-uses-3-clause-is
returns-in-Some-uses-3-clause-is c = a.falsehood c.in-Some-uses-3.ensures.is c.in_ok-at-4.ensures

pub returns-clause-is : goal.returns-clause-is
returns-clause-is c = a.unknown c.in_ok-k.ensures.is c.in_ok-at-5.ensures
