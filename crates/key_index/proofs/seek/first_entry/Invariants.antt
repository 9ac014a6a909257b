use Rattle.key_index.specs.Touched.{nodes_of}
use Rattle.key_index.proofs.Seeks.{SearchedUp}
use Rattle.key_index.proofs.seek.first_entry.Given as goal

-- the nodes so far have no entry that begins with the prefix
abbrev pub invariant-loop-key : goal.invariant-loop-key
invariant-loop-key l = (goal.iterator-loop-key).can_next l.nodes × (goal.iterator-loop-key).is_finite l.nodes × SearchedUp l.prefix (nodes_of l.fn.nodes) (nodes_of l.nodes)
