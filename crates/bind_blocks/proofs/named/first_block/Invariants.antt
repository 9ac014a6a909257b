use Rattle.std.proofs.Common.{◌≡◌, drop}
use Rattle.bind_blocks.specs.Views.{sought_test}
use Rattle.bind_blocks.proofs.Innermost.{first_from}
use Rattle.bind_blocks.proofs.named.first_block.Given as goal

abbrev pub invariant-loop-x : goal.invariant-loop-x
invariant-loop-x l = first_from (sought_test l.sought) l.last (drop l.x-index l.around) ≡ first_from (sought_test l.sought) 0 l.around
