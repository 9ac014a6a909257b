use Rattle.std.proofs.Common.{◌-◌, length, map}
use Rattle.syntax_tree.specs.Typed.{expression_of}
use Rattle.syntax_reader.specs.Streaming.{AreExpressions}
use Rattle.syntax_reader.specs.Views.{source_of}
use Rattle.syntax_reader.proofs.Rows.{InRow}
use Rattle.syntax_reader.proofs.streaming.expressions.Given as goal

abbrev pub invariant-loop-k : goal.invariant-loop-k
invariant-loop-k l = InRow (AreExpressions (source_of l.reader)) l.begun l.n (map expression_of l.found.items)

abbrev pub decreases-loop-k : goal.decreases-loop-k
decreases-loop-k l = length l.reader.nodes.now - l.n
