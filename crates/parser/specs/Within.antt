-- What holds of each node of a tree.
use Rattle.std.specs.Prelude.{ℕ, ◌<◌, ◌≤◌, List, length}
use Rattle.parse_tree.specs.declared.token.TokenKind.{TokenKind}
use Rattle.parse_tree.specs.declared.tree.Node.{Node}
use Rattle.parse_tree.specs.declared.production.TheConstants.{PRODUCTIONS}

-- the node with this number ends within the tree and not before its own number, begins at a token, and uses a production of the table
pub record IsWithin (number : ℕ) (node : Node) (tree : List Node) (tokens : List TokenKind) : Type 0 where
  pub ends_beyond : number < node.end
  pub ends_within : node.end ≤ length tree
  pub begins : node.first < length tokens
  pub uses : node.production < PRODUCTIONS
