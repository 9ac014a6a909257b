use Rattle.flat_machine.proofs.Written.{one_more}
use Rattle.flat_machine.proofs.laws.one_more_instruction.Goals as goal

pub returns : goal.returns
returns c = one_more
