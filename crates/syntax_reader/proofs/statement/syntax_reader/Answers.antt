use Rattle.syntax_reader.specs.Statements as a
use Rattle.syntax_reader.proofs.statement.syntax_reader.Goals as goal

pub returns : goal.returns
returns c = a.program c.in_ok-k.ensures.is c.in_ok-items.ensures.is
