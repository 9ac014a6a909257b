use Rattle.std.proofs.Common.{◌+◌, length}
use Rattle.log_meaning.proofs.StepsLemmas.Runs.{started}
use Rattle.bi_log.specs.Buffer.{content}
use Rattle.bi_log.specs.Generations.{AfterGate}
use Rattle.bi_log.proofs.Lengths.{run_none}
use Rattle.bi_log.proofs.carrying.make_room.Goals as goal

pub returns-clause-time : goal.returns-clause-time
returns-clause-time g c = started _ _ (AfterGate c.args.area) (λ m image left. (g.met.D.Disk.image_known c.args.disk.now m image left).past)

pub returns-clause-within : goal.returns-clause-within
returns-clause-within g c = run_none _ _ (c.args.gate + 6 + length (content c.args.buffer.now)) (λ m image left. (g.met.D.Disk.image_known c.args.disk.now m image left).past)
