use Rattle.std.proofs.Common.{length}
use Rattle.key_index.proofs.TouchedKeys.{EndsKeys}
use Rattle.key_index.proofs.touched.end_keys.Given as goal

abbrev pub invariant-loop-key : goal.invariant-loop-key
invariant-loop-key l = EndsKeys l.client l.fn.nodes l.nodes l.touched l.rest

abbrev pub decreases-loop-key : goal.decreases-loop-key
decreases-loop-key l = length l.rest
