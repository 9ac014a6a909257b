use Rattle.source_reader.proofs.Headers.{buffers_as_defined}
use Rattle.source_reader.proofs.laws.buffers_are_as_defined.Goals as goal

pub returns : goal.returns
returns c = λ schema text tree is number procedure at header body block syntax_of has. buffers_as_defined schema text tree is number procedure at header body block syntax_of has
