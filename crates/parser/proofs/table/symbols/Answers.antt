use Rattle.std.proofs.Common.{refl}
use Rattle.parser.specs.Grammar.{symbols}
use Rattle.parser.proofs.table.symbols.Goals as goal

pub returns : goal.returns
unfolding symbols
returns c = refl
