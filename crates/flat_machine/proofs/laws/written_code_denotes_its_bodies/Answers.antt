use Rattle.flat_machine.proofs.Written.{all_stand}
use Rattle.flat_machine.proofs.laws.written_code_denotes_its_bodies.Goals as goal

pub returns : goal.returns
returns c = all_stand
