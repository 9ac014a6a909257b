use Rattle.std.proofs.Common.{arith}
use Rattle.client_memory.proofs.NoBuffers.{none_step, some_here}
use Rattle.client_memory.proofs.records.has_some.Goals as goal

pub returns-then-not-is_empty-clause-some : goal.returns-then-not-is_empty-clause-some
returns-then-not-is_empty-clause-some c = λ _ none. some_here c.args.frames.now c.loop-buffers.buffers-index c.buffers-item.result (omega (arith, c.loop-buffers-test.true)) c.buffers-item.is c.if-not-is_empty.ensures none

pub loop-buffers-preserved : goal.loop-buffers-preserved
loop-buffers-preserved c = none_step c.args.frames.now c.loop-buffers.buffers-index c.buffers-item.result (omega (arith, c.loop-buffers-test.true)) c.buffers-item.is c.if-not-is_empty.ensures c.loop-buffers.invariant
