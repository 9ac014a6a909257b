use Rattle.std.proofs.Common.{◌≡◌, ◌-◌, drop, length, List}
use Rattle.std.specs.Prelude.{reverse, ℕ}
use Rattle.parse_tree.specs.declared.tree.Node.{Node}
use Rattle.parser.specs.declared.symbol.Opening.{Opening}
use Rattle.parser.specs.Closing.{closing}
use Rattle.parser.proofs.nodes.nodes_of.Given as goal

-- the nodes from this number on, the last first, and the ends of the outermost of them
pub record Laid (openings : List Opening) (number : ℕ) (nodes : List Node) (ends : List ℕ) : Type 0 where
  pub nodes_are : reverse nodes ≡ (closing number (drop number openings)).laid_out
  pub ends_are : ends ≡ (closing number (drop number openings)).ends

abbrev pub invariant-loop-k : goal.invariant-loop-k
invariant-loop-k l = Laid l.openings (length l.openings - l.k) l.nodes.items l.ends
