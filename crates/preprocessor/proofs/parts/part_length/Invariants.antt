use Rattle.std.proofs.Common.{◌≡◌, ◌+◌, ◌≤◌, length}
use Rattle.preprocessor.specs.Parts.{cut, part_length}
use Rattle.preprocessor.proofs.Counts.{more}
use Rattle.preprocessor.proofs.parts.part_length.Given as goal

abbrev pub invariant-loop-rest : goal.invariant-loop-rest
invariant-loop-rest l = (part_length l.last l.bytes ≡ more l.n (cut l.last l.depth l.skip l.mode l.rest)) × (l.mode.comments ≤ l.n) × (l.depth ≤ l.n) × (l.n + length l.rest ≡ length l.bytes)

abbrev pub decreases-loop-rest : goal.decreases-loop-rest
decreases-loop-rest l = length l.rest
