use Rattle.std.proofs.Common.{arith, rules}
use Rattle.std.proofs.lemmas.Grind.{common_steps}
use Rattle.disk_database.proofs.unused.is_left.Goals as goal

pub returns-clause-not : goal.returns-clause-not
returns-clause-not g c = λ no readable. (c.is_unused.ensures.is (search rules), λ is. let same = c.in_ok-read.ensures.bytes readable in grind (arith, common_steps, same, is, no))
