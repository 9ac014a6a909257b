use Rattle.std.proofs.Common.{length}
use Rattle.key_index.specs.Touched.{nodes_of}
use Rattle.key_index.proofs.Seeks.{SearchedDown}
use Rattle.key_index.proofs.seek.last_entry.Given as goal

-- the nodes so far have no entry that begins with the prefix
abbrev pub invariant-loop-key : goal.invariant-loop-key
invariant-loop-key l = SearchedDown l.prefix (nodes_of l.fn.nodes) (nodes_of l.nodes)

abbrev pub decreases-loop-key : goal.decreases-loop-key
decreases-loop-key l = length l.nodes
