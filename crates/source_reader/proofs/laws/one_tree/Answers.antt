use Rattle.source_reader.proofs.Violations.{one_tree_of}
use Rattle.source_reader.proofs.laws.one_tree.Goals as goal

pub returns : goal.returns
returns c = λ schema text a b p q. one_tree_of schema text p q
