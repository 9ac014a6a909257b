use Rattle.std.proofs.Common.{ap}
use Rattle.block_meaning.specs.State.{Buffer}
use Rattle.block_meaning.specs.Frames.{buffer_at}
use Rattle.flat_machine.specs.Steps.{lock_step}
use Rattle.client_memory.specs.Buffers.{denoted_held}
use Rattle.buffer_steps.specs.changes.Buffers.{state_of}
use Rattle.buffer_steps.proofs.ChangesLemmas.Contents.{at_buffer, content_is, lock_goes, table_is}
use Rattle.buffer_steps.proofs.changes.locks.lock_for_change.Goals as goal

pub returns-in_default : goal.returns-in_default
returns-in_default c = λ p rest fits ks. let s = state_of rest c.args.buffers.now in ap (λ (z : Buffer). lock_step z.content z.table c.args.buffer ks s) (c.in_default.ensures p rest fits)

pub returns-in-Empty : goal.returns-in-Empty
returns-in-Empty c = λ p rest fits ks. let s = state_of rest c.args.buffers.now in at_buffer (λ d t. lock_step d t c.args.buffer ks s) (buffer_at c.args.buffer s) c.in-Some.found.now _ (c.in-Some.ensures p rest fits) c.in-Empty.is

pub returns-in-Pending : goal.returns-in-Pending
returns-in-Pending c = λ p rest fits ks. let s = state_of rest c.args.buffers.now in at_buffer (λ d t. lock_step d t c.args.buffer ks s) (buffer_at c.args.buffer s) c.in-Some.found.now _ (c.in-Some.ensures p rest fits) c.in-Pending.is

pub returns-in-Record : goal.returns-in-Record
returns-in-Record c = λ p rest fits. let s = state_of rest c.args.buffers.now in
    lock_goes c.lock_of.result c.args.buffer s c.in-Some.found.now.table c.in-Record.row c.in-Record.values (denoted_held c.in-Record.held) c.in-Record.made
    (content_is (buffer_at c.args.buffer s) c.in-Some.found.now _ (c.in-Some.ensures p rest fits) c.in-Record.is) (table_is (buffer_at c.args.buffer s) c.in-Some.found.now (c.in-Some.ensures p rest fits)) c.lock_of.ensures
