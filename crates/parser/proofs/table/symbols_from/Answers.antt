use Rattle.std.proofs.Common.{refl}
use Rattle.parser.specs.Grammar.{symbols_from}
use Rattle.parser.proofs.table.symbols_from.Goals as goal

pub returns : goal.returns
unfolding symbols_from
returns c = refl
