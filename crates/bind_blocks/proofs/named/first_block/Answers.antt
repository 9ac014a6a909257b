use Rattle.std.proofs.Common.{arith, sym, ◌∙◌}
use Rattle.bind_blocks.specs.Views.{sought_test}
use Rattle.bind_blocks.proofs.Innermost.{found_at, found_none}
use Rattle.bind_blocks.proofs.named.first_block.Goals as goal

pub returns-then-is_sought : goal.returns-then-is_sought
returns-then-is_sought c =
    found_at (sought_test c.args.sought) c.args.around.now c.loop-x.x-index c.x-item.result c.loop-x.last (omega arith) c.x-item.is (sym c.is_sought.ensures ∙ c.if-is_sought.true) c.loop-x.invariant

pub returns : goal.returns
returns c = found_none (sought_test c.args.sought) c.args.around.now c.loop-x.x-index c.loop-x.last (omega arith) c.loop-x.invariant
