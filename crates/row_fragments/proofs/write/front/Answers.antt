use Rattle.std.proofs.Common.{sym, arith}
use Rattle.std.proofs.lemmas.List.{take_all}
use Rattle.row_fragments.proofs.write.front.Goals as goal

pub returns-then-bytes-lt240 : goal.returns-then-bytes-lt240
returns-then-bytes-lt240 c = let lt = c.if-bytes-lt240.true in sym (take_all 240 c.args.bytes.now (omega arith))
