use Rattle.bind_expressions.proofs.Unbroken.{well_kinded}
use Rattle.bind_expressions.proofs.laws.what_breaks_no_rule_is_well_kinded.Goals as goal

pub returns : goal.returns
returns c = well_kinded
