use Rattle.std.proofs.Common.{List, ℕ, ◌≡◌, ◌<◌, ◌≤◌, ◌+◌, ◌-◌, length, drop}
use Rattle.lexer.specs.Forms.{plus}
use Rattle.lexer.specs.Gaps.{comment}
use Rattle.lexer.proofs.gap.comment_len.Given as goal

pub record Sofar (rest : List ℕ) (depth i : ℕ) : Type 0 where
  pub is : comment 1 rest ≡ plus i (comment depth (drop i rest))
  pub some : 0 < depth
  pub few : depth ≤ i + 1
  pub within : i ≤ length rest

abbrev pub invariant-loop-i : goal.invariant-loop-i
invariant-loop-i l = Sofar l.rest l.depth l.i

abbrev pub decreases-loop-i : goal.decreases-loop-i
decreases-loop-i l = length l.rest - l.i
