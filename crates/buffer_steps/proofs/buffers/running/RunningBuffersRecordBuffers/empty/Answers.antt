use Rattle.block_meaning.specs.State.{Empty}
use Rattle.buffer_steps.proofs.BuffersLemmas.Own.{own_held}
use Rattle.buffer_steps.proofs.buffers.running.RunningBuffersRecordBuffers.empty.Goals as goal

pub returns-clause-state : goal.returns-clause-state
returns-clause-state c = λ p rest fits. own_held rest c.args.self.now.procedures.now c.args.self.now.memory.now c.replace.new.self c.own.result c.args.buffer Empty fits.even c.own.ensures c.replace.ensures.new
