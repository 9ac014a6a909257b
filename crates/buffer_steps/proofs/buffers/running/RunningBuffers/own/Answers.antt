use Rattle.std.proofs.Common.{sym, Option, MatchOption}
use Rattle.buffer_steps.proofs.BuffersLemmas.Own.{own_found}
use Rattle.buffer_steps.proofs.buffers.running.RunningBuffers.own.Goals as goal

pub returns : goal.returns
returns c = own_found c.buffer.result c.args.self.now.procedures.now c.args.self.now.memory.now c.args.self.now.error c.args.self.now.returned.now c.own.result c.args.number c.own.ensures c.buffer.ensures
