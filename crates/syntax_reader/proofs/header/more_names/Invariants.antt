use Rattle.std.proofs.Common.{◌-◌, length}
use Rattle.syntax_reader.specs.Headers.{AreNames}
use Rattle.syntax_reader.specs.Views.{source_of}
use Rattle.syntax_reader.proofs.Rows.{InRest}
use Rattle.syntax_reader.proofs.header.more_names.Given as goal

abbrev pub invariant-loop-k : goal.invariant-loop-k
invariant-loop-k l = InRest (AreNames (source_of l.reader)) l.begun l.n l.fn.first l.found.items

abbrev pub decreases-loop-k : goal.decreases-loop-k
decreases-loop-k l = length l.reader.nodes.now - l.n
