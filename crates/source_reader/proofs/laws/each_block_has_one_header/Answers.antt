use Rattle.source_reader.proofs.Placed.{one_header_in_tree}
use Rattle.source_reader.proofs.laws.each_block_has_one_header.Goals as goal

pub returns : goal.returns
returns c = λ schema text tree is syntax_of has number block at. one_header_in_tree schema text tree is syntax_of has number block at
