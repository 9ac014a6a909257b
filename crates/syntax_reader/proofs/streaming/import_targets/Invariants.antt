use Rattle.std.proofs.Common.{◌-◌, length}
use Rattle.syntax_reader.specs.Streaming.{AreTargets}
use Rattle.syntax_reader.specs.Views.{source_of}
use Rattle.syntax_reader.proofs.Rows.{InRow}
use Rattle.syntax_reader.proofs.streaming.import_targets.Given as goal

abbrev pub invariant-loop-found : goal.invariant-loop-found
invariant-loop-found l = InRow (AreTargets (source_of l.reader)) l.begun l.n l.found.items

abbrev pub decreases-loop-found : goal.decreases-loop-found
decreases-loop-found l = length l.reader.nodes.now - l.n
