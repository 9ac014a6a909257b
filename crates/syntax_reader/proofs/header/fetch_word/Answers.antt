use Rattle.syntax_reader.specs.Headers as a
use Rattle.syntax_reader.proofs.header.fetch_word.Goals as goal

pub returns-in-Some : goal.returns-in-Some
returns-in-Some c = a.each c.in-Some.ensures.is

pub returns-in-Some-uses : goal.returns-in-Some-uses
returns-in-Some-uses c = a.first c.in-Some-uses.ensures.is

pub returns : goal.returns
returns c = a.last c.in_ok-k.ensures.is
