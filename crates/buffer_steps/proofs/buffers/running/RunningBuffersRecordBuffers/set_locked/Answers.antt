use Rattle.buffer_steps.proofs.BuffersLemmas.Own.{own_locked}
use Rattle.buffer_steps.proofs.buffers.running.RunningBuffersRecordBuffers.set_locked.Goals as goal

pub returns-clause-state : goal.returns-clause-state
returns-clause-state c = λ p rest fits. own_locked rest c.args.self.now.procedures.now c.args.self.now.memory.now c.set_locked.new.self c.own.result c.args.buffer c.args.locked fits.even c.own.ensures c.set_locked.ensures
