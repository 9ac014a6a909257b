use Rattle.std.proofs.Common.{refl}
use Rattle.parser.specs.Grammar.{nonterminals}
use Rattle.parser.proofs.table.nonterminals.Goals as goal

pub returns : goal.returns
unfolding nonterminals
returns c = refl
