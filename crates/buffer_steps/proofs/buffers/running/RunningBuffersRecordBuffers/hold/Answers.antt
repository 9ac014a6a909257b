use Rattle.std.proofs.Common.{ap, ◌∙◌}
use Rattle.block_meaning.specs.State.{Held, Record}
use Rattle.block_meaning.specs.Frames.{holding}
use Rattle.client_memory.specs.Buffers.{denoted_held}
use Rattle.client_memory.specs.Frames.{state_with}
use Rattle.buffer_steps.proofs.BuffersLemmas.Own.{own_held}
use Rattle.buffer_steps.proofs.buffers.running.RunningBuffersRecordBuffers.hold.Goals as goal

pub returns-clause-state : goal.returns-clause-state
returns-clause-state c = λ p rest fits.
    own_held rest c.args.self.now.procedures.now c.args.self.now.memory.now c.replace.new.self c.own.result c.args.buffer (Record c.args.row c.args.values (denoted_held c.held_as.result) c.args.made) fits.even c.own.ensures c.replace.ensures.new
    ∙ ap (λ (h : Held). holding c.args.buffer (Record c.args.row c.args.values h c.args.made) (state_with rest c.args.self.now.procedures.now c.args.self.now.memory.now)) c.held_as.ensures
