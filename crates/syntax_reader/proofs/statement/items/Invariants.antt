use Rattle.std.proofs.Common.{◌-◌, length, map}
use Rattle.syntax_tree.specs.Typed.{item_of}
use Rattle.syntax_reader.specs.Statements.{AreItems}
use Rattle.syntax_reader.specs.Views.{source_of}
use Rattle.syntax_reader.proofs.Rows.{InRow}
use Rattle.syntax_reader.proofs.statement.items.Given as goal

abbrev pub invariant-loop-k : goal.invariant-loop-k
invariant-loop-k l = InRow (AreItems (source_of l.reader)) l.begun l.n (map item_of l.found.items)

abbrev pub decreases-loop-k : goal.decreases-loop-k
decreases-loop-k l = length l.reader.nodes.now - l.n
