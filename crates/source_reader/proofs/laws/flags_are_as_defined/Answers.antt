use Rattle.source_reader.proofs.Headers.{flags_as_defined}
use Rattle.source_reader.proofs.laws.flags_are_as_defined.Goals as goal

pub returns : goal.returns
returns c = λ schema text tree is number procedure at header body block. flags_as_defined schema text tree is number procedure at header body block
