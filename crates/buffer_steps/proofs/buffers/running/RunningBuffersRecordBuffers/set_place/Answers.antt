use Rattle.bound_tree.specs.Bound.{reading_of}
use Rattle.block_meaning.specs.Reads.{spot_at}
use Rattle.buffer_steps.proofs.BuffersLemmas.Own.{own_spot}
use Rattle.buffer_steps.proofs.buffers.running.RunningBuffersRecordBuffers.set_place.Goals as goal

pub returns-clause-state : goal.returns-clause-state
returns-clause-state c = λ p rest fits. own_spot rest c.args.self.now.procedures.now c.args.self.now.memory.now c.set_spot.new.self c.own.result c.args.reading.now.buffer (spot_at (reading_of c.args.reading.now) c.args.cursor) fits.even c.own.ensures c.set_spot.ensures
