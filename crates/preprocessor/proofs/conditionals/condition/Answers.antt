use Rattle.std.proofs.Common.{arith, length}
use Rattle.preprocessor.proofs.Heights.{condition_below, some_below}
use Rattle.preprocessor.proofs.conditionals.condition.Goals as goal

pub returns-clause-falls : goal.returns-clause-falls
returns-clause-falls c =
    let k = some_below c.in_ok-k.field-0 c.in-Some.k (length c.args.bytes.now) c.in_ok-k.ensures.within c.in-Some.is in
    condition_below c.args.stack.items c.push.new.self.items _ c.args.bytes.now c.front-2.result.now c.in-Some.k c.args.state.budget c.in_ok-push.ensures.items c.front-2.ensures c.after.ensures (omega (arith, k))
