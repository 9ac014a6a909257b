use Rattle.std.proofs.Common.{ap}
use Rattle.block_meaning.specs.State.{Buffer}
use Rattle.block_meaning.specs.Frames.{buffer_at}
use Rattle.block_meaning.specs.Values.{is_available}
use Rattle.buffer_steps.specs.changes.Buffers.{state_of}
use Rattle.buffer_steps.proofs.ChangesLemmas.Contents.{at_buffer}
use Rattle.buffer_steps.proofs.changes.fields.has_record.Goals as goal

pub returns-in_default : goal.returns-in_default
returns-in_default c = λ p rest fits. ap (λ (z : Buffer). is_available z.content) (c.in_default.ensures p rest fits)

pub returns-in-Empty : goal.returns-in-Empty
returns-in-Empty c = λ p rest fits. at_buffer (λ d t. is_available d) (buffer_at c.args.buffer (state_of rest c.args.buffers.now)) c.in-Some.found.now _ (c.in-Some.ensures p rest fits) c.in-Empty.is

pub returns-in-Record : goal.returns-in-Record
returns-in-Record c = λ p rest fits. at_buffer (λ d t. is_available d) (buffer_at c.args.buffer (state_of rest c.args.buffers.now)) c.in-Some.found.now _ (c.in-Some.ensures p rest fits) c.in-Record.is

pub returns-in-Pending : goal.returns-in-Pending
returns-in-Pending c = λ p rest fits. at_buffer (λ d t. is_available d) (buffer_at c.args.buffer (state_of rest c.args.buffers.now)) c.in-Some.found.now _ (c.in-Some.ensures p rest fits) c.in-Pending.is
