use Rattle.std.proofs.Common.{sym, ◌∙◌}
use Rattle.client_memory.specs.Frames.{state_with}
use Rattle.buffer_steps.proofs.BuffersLemmas.Own.{own_env}
use Rattle.buffer_steps.proofs.buffers.running.RunningBuffersRecordBuffers.bracket.Goals as goal

pub returns : goal.returns
returns c = λ p rest fits.
    c.bracket_row.ensures p c.args.retry (state_with rest c.args.self.now.procedures.now c.args.self.now.memory.now) fits.forms
    (own_env p rest c.args.self.now.procedures.now c.args.self.now.memory.now c.args.retry c.args.self.now.error c.args.self.now.returned.now fits ∙ sym c.scope.ensures)
