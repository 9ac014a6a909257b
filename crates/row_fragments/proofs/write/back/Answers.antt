use Rattle.std.proofs.Common.{drop, sym, arith}
use Rattle.std.proofs.lemmas.List.{take_all, drop_all, length-drop}
use Rattle.row_fragments.proofs.write.back.Goals as goal

pub returns-then-bytes-lt240 : goal.returns-then-bytes-lt240
returns-then-bytes-lt240 c = let lt = c.if-bytes-lt240.true in sym (drop_all 240 c.args.bytes.now (omega arith))

pub returns-else-bytes-lt240 : goal.returns-else-bytes-lt240
returns-else-bytes-lt240 c = take_all _ (drop 240 c.args.bytes.now) (omega (arith, length-drop 240 c.args.bytes.now))
