use Rattle.std.proofs.Common.{arith}
use Rattle.value_masks.proofs.Rounds.{ten_positive}
use Rattle.value_masks.proofs.rounding.ten_to.Goals as goal

pub returns-clause-positive : goal.returns-clause-positive
returns-clause-positive c = omega (arith, ten_positive c.args.power, c.pow.ensures)
