use Rattle.std.proofs.Common.{◌-◌, length, map}
use Rattle.syntax_tree.specs.Typed.{argument_of}
use Rattle.syntax_reader.specs.Plain.{AreOtherArguments}
use Rattle.syntax_reader.specs.Views.{source_of}
use Rattle.syntax_reader.proofs.Rows.{InRest}
use Rattle.syntax_reader.proofs.flow.other_arguments.Given as goal

abbrev pub invariant-loop-k : goal.invariant-loop-k
invariant-loop-k l = InRest (AreOtherArguments (source_of l.reader)) l.begun l.n (argument_of l.fn.first) (map argument_of l.found.items)

abbrev pub decreases-loop-k : goal.decreases-loop-k
decreases-loop-k l = length l.reader.nodes.now - l.n
