use Rattle.flat_machine.proofs.Fused.{after_back_at_once}
use Rattle.flat_machine.proofs.laws.levels_are_undone_at_once.Goals as goal

pub returns : goal.returns
returns c = after_back_at_once
