use Rattle.std.proofs.Common.{true, false, ap, ◌∙◌}
use Rattle.std.proofs.lemmas.Result.{IfOk-weaker}
use Rattle.block_meaning.specs.State.{Buffer}
use Rattle.block_meaning.specs.Buffers.{own}
use Rattle.block_meaning.specs.Frames.{buffer_at}
use Rattle.flat_machine.specs.Config.{EntersOne, Execute, Unwind}
use Rattle.flat_machine.specs.Steps.{config, config_if, settle_step}
use Rattle.block_meaning.specs.State.{Normal}
use Rattle.client_memory.specs.Buffers.{denoted_held}
use Rattle.buffer_steps.specs.changes.Buffers.{state_of}
use Rattle.buffer_steps.proofs.ChangesLemmas.Contents.{at_buffer, begun_is, content_is, settle_goes, table_is}
use Rattle.buffer_steps.proofs.changes.stores.settle.Goals as goal

pub returns-in_default : goal.returns-in_default
returns-in_default c = λ p rest tables fits ks. let s = state_of rest c.args.buffers.now in ap (λ (z : Buffer). settle_step p z.content z.table c.args.buffer ks s) (c.in_default.ensures p rest fits)

pub returns-in-Empty : goal.returns-in-Empty
returns-in-Empty c = λ p rest tables fits ks. let s = state_of rest c.args.buffers.now in at_buffer (λ d t. settle_step p d t c.args.buffer ks s) (buffer_at c.args.buffer s) c.in-Some.found.now _ (c.in-Some.ensures p rest fits) c.in-Empty.is

pub returns-then-all_begun : goal.returns-then-all_begun
returns-then-all_begun c = λ p rest tables fits ks. let s = state_of rest c.args.buffers.now in
    at_buffer (λ d t. settle_step p d t c.args.buffer ks s) (buffer_at c.args.buffer s) c.in-Some.found.now _ (c.in-Some.ensures p rest fits) c.in-Pending.is
    ∙ ap (λ b. config_if b (config (Execute (EntersOne (own c.args.buffer))) ks s) (config (Unwind Normal) ks s)) (begun_is p c.args.schema.now c.in-Some.found.now.table c.indexes_of.result.now c.in-Pending.since c.as_slice.result.now c.all_begun.result true tables c.indexes_of.ensures c.as_slice.ensures c.all_begun.ensures c.if-all_begun.true)

pub returns-else-all_begun : goal.returns-else-all_begun
returns-else-all_begun c = λ p rest tables fits ks. let s = state_of rest c.args.buffers.now in
    at_buffer (λ d t. settle_step p d t c.args.buffer ks s) (buffer_at c.args.buffer s) c.in-Some.found.now _ (c.in-Some.ensures p rest fits) c.in-Pending.is
    ∙ ap (λ b. config_if b (config (Execute (EntersOne (own c.args.buffer))) ks s) (config (Unwind Normal) ks s)) (begun_is p c.args.schema.now c.in-Some.found.now.table c.indexes_of.result.now c.in-Pending.since c.as_slice.result.now c.all_begun.result false tables c.indexes_of.ensures c.as_slice.ensures c.all_begun.ensures c.if-all_begun.false)

pub returns-in-Record : goal.returns-in-Record
returns-in-Record c = IfOk-weaker c.put.result _ _ (λ step h p rest tables fits. let s = state_of rest c.args.buffers.now in
    settle_goes step p c.args.buffer s c.in-Some.found.now.table c.in-Record.row c.in-Record.values (denoted_held c.in-Record.held) c.in-Record.made
    (content_is (buffer_at c.args.buffer s) c.in-Some.found.now _ (c.in-Some.ensures p rest fits) c.in-Record.is) (table_is (buffer_at c.args.buffer s) c.in-Some.found.now (c.in-Some.ensures p rest fits)) (h p tables)) c.put.ensures
