use Rattle.std.proofs.Common.{refl}
use Rattle.parser.specs.Same.{nonterminal_number}
use Rattle.parser.proofs.table.nonterminal_number.Goals as goal

pub returns : goal.returns
unfolding nonterminal_number
returns c = refl
