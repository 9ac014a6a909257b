use Rattle.std.proofs.Common.{◌-◌, length}
use Rattle.syntax_reader.specs.Views.{source_of}
use Rattle.syntax_reader.proofs.Rows.{InBody}
use Rattle.syntax_reader.proofs.statement.+statements.Given as goal

abbrev pub decreases-statement : goal.decreases-statement
decreases-statement l = length l.reader.now.nodes.now - l.n

abbrev pub decreases-else_branch : goal.decreases-else_branch
decreases-else_branch l = length l.reader.now.nodes.now - l.n

abbrev pub decreases-block : goal.decreases-block
decreases-block l = length l.reader.now.nodes.now - l.n

abbrev pub decreases-statements : goal.decreases-statements
decreases-statements l = length l.reader.now.nodes.now - l.begun

abbrev pub invariant-statements-loop-k : goal.invariant-statements-loop-k
invariant-statements-loop-k l = InBody (source_of l.reader) l.begun l.n l.found.items

abbrev pub decreases-statements-loop-k : goal.decreases-statements-loop-k
decreases-statements-loop-k l = length l.reader.nodes.now - l.n
