-- How the contracts see the values of the program.
use Rattle.std.specs.Prelude.{Option, Some, None, Box}
use Rattle.std.specs.declared.alloc.Global.{Global}
use Rattle.syntax_tree.specs.declared.statement.Statement.{Statement as TypedStatement}
use Rattle.syntax_tree.specs.Syntax.{Statements, Nothing, Then}
use Rattle.syntax_tree.specs.Typed.{statement_of}
use Rattle.syntax_reader.specs.declared.nodes.Reader.{Reader}
use Rattle.syntax_reader.specs.Nodes.{Source}

-- the tokens and the nodes
abbrev pub source_of : Reader → Source
source_of r = record { tokens = r.tokens.now; nodes = r.nodes.now }

-- the statement after ELSE, if there is one
abbrev pub maybe_statement_of : Option (Box TypedStatement Global) → Statements
maybe_statement_of None = Nothing
maybe_statement_of (Some t) = Then (statement_of t.value) Nothing
