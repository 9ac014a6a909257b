use Rattle.source_reader.proofs.Placed.{blocks_in_tree}
use Rattle.source_reader.proofs.laws.headers_are_the_blocks_of_the_text.Goals as goal

pub returns : goal.returns
returns c = λ schema text tree is syntax_of has number procedure at. blocks_in_tree schema text tree is syntax_of has number procedure at
