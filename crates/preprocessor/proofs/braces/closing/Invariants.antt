use Rattle.std.proofs.Common.{◌≡◌, ◌+◌, ◌≤◌, [], length, reverse}
use Rattle.preprocessor.specs.Braces.{closing}
use Rattle.preprocessor.specs.Modes.{inner}
use Rattle.preprocessor.proofs.Counts.{more}
use Rattle.preprocessor.proofs.braces.closing.Given as goal

abbrev pub invariant-loop-rest : goal.invariant-loop-rest
invariant-loop-rest l = (closing [] inner l.bytes ≡ more l.n (closing (reverse l.outer.items) l.mode l.rest)) × (l.mode.comments ≤ l.n) × (l.n + length l.rest ≡ length l.bytes)

abbrev pub decreases-loop-rest : goal.decreases-loop-rest
decreases-loop-rest l = length l.rest
