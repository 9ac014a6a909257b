use Rattle.std.proofs.Common.{◌-◌, length}
use Rattle.syntax_reader.specs.Definitions.{AreVariableOptions}
use Rattle.syntax_reader.specs.Views.{source_of}
use Rattle.syntax_reader.proofs.Rows.{InRow}
use Rattle.syntax_reader.proofs.definition.variable_options.Given as goal

abbrev pub invariant-loop-k : goal.invariant-loop-k
invariant-loop-k l = InRow (AreVariableOptions (source_of l.reader)) l.begun l.n l.found.items

abbrev pub decreases-loop-k : goal.decreases-loop-k
decreases-loop-k l = length l.reader.nodes.now - l.n
