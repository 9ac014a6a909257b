use Rattle.std.proofs.Common.{◌-◌, length, map}
use Rattle.syntax_tree.specs.Typed.{pair_of}
use Rattle.syntax_reader.specs.Plain.{ArePairs}
use Rattle.syntax_reader.specs.Views.{source_of}
use Rattle.syntax_reader.proofs.Rows.{InRow}
use Rattle.syntax_reader.proofs.assignment.pairs.Given as goal

abbrev pub invariant-loop-k : goal.invariant-loop-k
invariant-loop-k l = InRow (ArePairs (source_of l.reader)) l.begun l.n (map pair_of l.found.items)

abbrev pub decreases-loop-k : goal.decreases-loop-k
decreases-loop-k l = length l.reader.nodes.now - l.n
