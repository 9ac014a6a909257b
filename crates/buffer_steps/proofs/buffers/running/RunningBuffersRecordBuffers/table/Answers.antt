use Rattle.std.proofs.Common.{ap}
use Rattle.block_meaning.specs.State.{Buffer}
use Rattle.buffer_steps.proofs.BuffersLemmas.Own.{own_is, own_none}
use Rattle.buffer_steps.proofs.buffers.running.RunningBuffersRecordBuffers.table.Goals as goal

pub returns-in-Some : goal.returns-in-Some
returns-in-Some c = λ p rest fits. ap (λ (x : Buffer). x.table) (own_is rest c.args.self.now.procedures.now c.args.self.now.memory.now c.own.result c.args.buffer c.in-Some.buffer.now fits.even c.own.ensures c.in-Some.ensures)

pub returns-in-None : goal.returns-in-None
returns-in-None c = λ p rest fits. ap (λ (x : Buffer). x.table) (own_none rest c.args.self.now.procedures.now c.args.self.now.memory.now c.own.result c.args.buffer fits.even c.own.ensures c.in-None.ensures)
