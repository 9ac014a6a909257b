-- The parameters inside a block.
use Rattle.std.proofs.Common.{◌≡◌, List, ◌++◌}
use Rattle.std.specs.Prelude.{Box, Vec}
use Rattle.std.specs.declared.alloc.Global.{Global}
use Rattle.syntax_tree.specs.declared.block.Head.{Head}
use Rattle.syntax_tree.specs.declared.statement.Statement.{Statement}
use Rattle.syntax_tree.specs.declared.statement.Statement.TheViews as view
use Rattle.syntax_tree.specs.Typed.{statement_of, statements_of}
use Rattle.syntax_tree.proofs.Bodies.{block_is}
use Rattle.bind_names.specs.declared.names.Formal.{Formal}
use Rattle.binder.specs.Sources.{formals_in, formals_of}

pub block_formals : (t : Statement) (head : Box Head Global) (v : Vec Statement Global) (body : List Statement) (old new : List Formal) →
    t ≡ view.Block head v → body ≡ v.items → new ≡ old ++ formals_in (statements_of body) → new ≡ old ++ formals_of (statement_of t)
block_formals t head v body old new is is_body e = rw (is, block_is head v) (rw is_body at e)
