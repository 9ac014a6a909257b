use Rattle.client_calls.proofs.Passed.{set_more}
use Rattle.client_calls.proofs.outputs.set_all.Goals as goal

pub loop-output-preserved : goal.loop-output-preserved
loop-output-preserved c = set_more c.loop-output.yielded c.in-Some.output c.args.memory.now c.loop-output.memory c.set.new.self c.loop-output.invariant c.in_ok-set.ensures.ok
