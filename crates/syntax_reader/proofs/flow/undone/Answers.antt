use Rattle.syntax_reader.specs.Plain as a
use Rattle.syntax_reader.proofs.flow.undone.Goals as goal

pub returns-clause-is : goal.returns-clause-is
returns-clause-is c = rw c.in_ok-action.ensures (a.undo c.requires.uses c.in_ok-at.ensures c.in_ok-label.ensures.is c.in_ok-found.ensures.is)
