use Rattle.buffer_scope.specs.Views.{own_of}
use Rattle.buffer_scope.proofs.own.is_strong_block.Goals as goal

pub returns : goal.returns
unfolding own_of
returns c = c.contains.ensures
