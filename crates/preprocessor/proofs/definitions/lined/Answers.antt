use Rattle.preprocessor.proofs.Heights.{line_below}
use Rattle.preprocessor.proofs.definitions.lined.Goals as goal

pub returns-clause-falls : goal.returns-clause-falls
returns-clause-falls c =
    line_below c.args.stack.items c.push.new.self.items _ c.args.global c.args.bytes.now c.front-2.result.now c.line_length-k.result c.args.state.budget c.in_ok-push.ensures.items c.front-2.ensures c.after.ensures c.line_length-k.ensures.within
