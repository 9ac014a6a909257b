use Rattle.client_values.proofs.Each.{next_none_at, last_none}
use Rattle.client_values.proofs.assign.are_variable_targets.Goals as goal

pub returns : goal.returns
returns c = λ e. last_none c.args.targets.now c.loop-target.target-index c.loop-target-test.false c.loop-target.invariant

pub loop-target-preserved : goal.loop-target-preserved
loop-target-preserved c = next_none_at c.args.targets.now c.loop-target.target-index _ c.loop-target-test.true (c.is_variable_or_none.ensures c.if-not-is_variable_or_none.false) c.loop-target.invariant
