use Rattle.bound_tree.specs.Bound.{expr_of}
use Rattle.client_values.proofs.Scopes.{evaluates_here}
use Rattle.client_values.proofs.value.value_of.Goals as goal

pub returns : goal.returns
returns c = evaluates_here c.args.memory.now (expr_of c.args.expression.now) c.args.status.now.retry c.args.status.now.error c.args.status.now.returned.now c.evaluate.result c.evaluate.ensures.value c.evaluate.ensures.fault
