use Rattle.std.proofs.Common.{arith}
use Rattle.parser.proofs.Cuts.{count_fits}
use Rattle.parser.proofs.opening.opening.Goals as goal

pub overflow_cast-result : goal.overflow_cast-result
overflow_cast-result c = let h = count_fits in omega arith
