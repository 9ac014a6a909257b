-- The blocks around a place, as the code holds them.
use Rattle.std.specs.Prelude.{List, [], ◌∷◌}
use Rattle.syntax_tree.specs.Syntax.{Head}
use Rattle.syntax_tree.specs.Typed.{head_of}
use Rattle.block_rules.specs.declared.around.Around.{Around, Procedure, Block'}

abbrev pub heads_of : Around → List Head
heads_of Procedure = []
heads_of (Block' head p outer) = head_of head.now ∷ heads_of outer
