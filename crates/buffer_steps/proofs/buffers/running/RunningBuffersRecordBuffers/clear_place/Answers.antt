use Rattle.std.proofs.Common.{None}
use Rattle.buffer_steps.proofs.BuffersLemmas.Own.{own_spot}
use Rattle.buffer_steps.proofs.buffers.running.RunningBuffersRecordBuffers.clear_place.Goals as goal

pub returns-clause-state : goal.returns-clause-state
returns-clause-state c = λ p rest fits. own_spot rest c.args.self.now.procedures.now c.args.self.now.memory.now c.set_spot.new.self c.own.result c.args.buffer None fits.even c.own.ensures c.set_spot.ensures
