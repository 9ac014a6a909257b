use Rattle.std.proofs.Common.{sym}
use Rattle.client_memory.specs.Buffers.{denoted_content}
use Rattle.buffer_steps.proofs.BuffersLemmas.Own.{own_content, own_held, still_reads}
use Rattle.buffer_steps.proofs.buffers.running.RunningBuffers.replace.Goals as goal

pub returns-clause-old : goal.returns-clause-old
returns-clause-old c = λ p rest fits. sym (own_content rest c.args.self.now.procedures.now c.args.self.now.memory.now c.own.result c.args.number (denoted_content c.replace.result) fits.even c.own.ensures c.replace.ensures.old)

pub returns-clause-state : goal.returns-clause-state
returns-clause-state c = λ p rest fits. own_held rest c.args.self.now.procedures.now c.args.self.now.memory.now c.replace.new.self c.own.result c.args.number (denoted_content c.args.content) fits.even c.own.ensures c.replace.ensures.new
