use Rattle.flat_machine.proofs.Fused.{assigns_at_once}
use Rattle.flat_machine.proofs.laws.variables_are_assigned_at_once.Goals as goal

pub returns : goal.returns
returns c = assigns_at_once
