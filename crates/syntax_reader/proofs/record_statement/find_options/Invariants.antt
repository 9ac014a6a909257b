use Rattle.std.proofs.Common.{◌-◌, length, map}
use Rattle.syntax_tree.specs.Typed.{record_option_of}
use Rattle.syntax_reader.specs.Plain.{AreFindOptions}
use Rattle.syntax_reader.specs.Views.{source_of}
use Rattle.syntax_reader.proofs.Rows.{InRow}
use Rattle.syntax_reader.proofs.record_statement.find_options.Given as goal

abbrev pub invariant-loop-found : goal.invariant-loop-found
invariant-loop-found l = InRow (AreFindOptions (source_of l.reader)) l.begun l.n (map record_option_of l.found.items)

abbrev pub decreases-loop-found : goal.decreases-loop-found
decreases-loop-found l = length l.reader.nodes.now - l.n
