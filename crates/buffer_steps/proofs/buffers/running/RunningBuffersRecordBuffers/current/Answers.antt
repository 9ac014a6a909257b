use Rattle.std.proofs.Common.{ap, sym, ◌∙◌}
use Rattle.block_meaning.specs.State.{Buffer}
use Rattle.client_memory.specs.Buffers.{denoted_content, denoted_held}
use Rattle.buffer_steps.proofs.BuffersLemmas.Own.{own_is, own_none}
use Rattle.buffer_steps.proofs.buffers.running.RunningBuffersRecordBuffers.current.Goals as goal

pub returns-in_default : goal.returns-in_default
returns-in_default c = λ p rest fits. sym (ap (λ (x : Buffer). x.content) (own_none rest c.args.self.now.procedures.now c.args.self.now.memory.now c.own.result c.args.buffer fits.even c.own.ensures c.in_default.ensures))

pub returns-in-Empty : goal.returns-in-Empty
returns-in-Empty c = λ p rest fits. sym (ap (λ (x : Buffer). x.content) (own_is rest c.args.self.now.procedures.now c.args.self.now.memory.now c.own.result c.args.buffer c.in-Some.buffer.now fits.even c.own.ensures c.in-Some.ensures)) ∙ ap denoted_content c.in-Empty.is

pub returns-in-Pending : goal.returns-in-Pending
returns-in-Pending c = λ p rest fits. (c.in-Pending.values, c.in-Pending.since, c.in-Pending.made, sym (ap (λ (x : Buffer). x.content) (own_is rest c.args.self.now.procedures.now c.args.self.now.memory.now c.own.result c.args.buffer c.in-Some.buffer.now fits.even c.own.ensures c.in-Some.ensures)) ∙ ap denoted_content c.in-Pending.is)

pub returns-in-Record : goal.returns-in-Record
returns-in-Record c = λ p rest fits. (c.in-Record.values, denoted_held c.in-Record.held, sym (ap (λ (x : Buffer). x.content) (own_is rest c.args.self.now.procedures.now c.args.self.now.memory.now c.own.result c.args.buffer c.in-Some.buffer.now fits.even c.own.ensures c.in-Some.ensures)) ∙ ap denoted_content c.in-Record.is)
