use Rattle.syntax_reader.specs.Headers as a
use Rattle.syntax_reader.proofs.header.on_phrase.Goals as goal

pub returns-in-Some-clause-is : goal.returns-in-Some-clause-is
returns-in-Some-clause-is c = a.on_error c.in_ok-k.ensures.is c.in_ok-at.ensures c.in-Some.ensures.is c.in_ok-label.ensures.is c.in_ok-action.ensures.is

pub returns-clause-is : goal.returns-clause-is
returns-clause-is c = a.on_endkey c.in_ok-k.ensures.is c.in_ok-at.ensures c.in_ok-j.ensures.is c.in_ok-label.ensures.is c.in_ok-action.ensures.is
