use Rattle.std.proofs.Common.{length, ap, arith}
use Rattle.parser.proofs.Cuts.{count_is, empty_long, empty_is}
use Rattle.parser.proofs.table.may_be_empty.Goals as goal

pub bounds-all-r : goal.bounds-all-r
bounds-all-r c = omega (arith, count_is, empty_long, ap length c.empty-all.ensures)

pub returns : goal.returns
returns c = empty_is c.empty-all.result.now c.args.r c.empty-all.ensures c.requires
