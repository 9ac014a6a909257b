use Rattle.std.proofs.Common.{arith}
use Rattle.bi_recovery.proofs.Creating.{zeros_past}
use Rattle.bi_recovery.proofs.creation.zero_count.Goals as goal

pub returns-then-slots-lt8191-clause-all : goal.returns-then-slots-lt8191-clause-all
returns-then-slots-lt8191-clause-all g c = λ known s from lt. zeros_past (g.D.Disk.seen c.args.disk.now 0) s (let is = c.in_ok-length.ensures.length known in let few = c.if-slots-lt8191.true in omega (arith, is, few, from))

pub returns-clause-all : goal.returns-clause-all
returns-clause-all g c = λ known s from lt. zeros_past (g.D.Disk.seen c.args.disk.now 0) s (let is = c.in_ok-length.ensures.length known in omega (arith, is, from))
