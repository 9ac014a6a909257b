use Rattle.std.proofs.Common.{below_more, arith}
use Rattle.test_disks.proofs.disk_rows.calling.others_wrote.Goals as goal

pub clients-preserved : goal.clients-preserved
clients-preserved c = below_more _ _ c.clients.invariant (c.other_wrote.ensures c.if-other_wrote.false)

pub returns : goal.returns
returns c = λ no k ne lt. c.clients.invariant k (omega (arith, lt, c.clients-test.false)) ne
