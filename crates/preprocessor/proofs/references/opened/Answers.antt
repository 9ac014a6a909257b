use Rattle.std.proofs.Common.{length}
use Rattle.preprocessor.proofs.Heights.{inside_below, some_below}
use Rattle.preprocessor.proofs.references.opened.Goals as goal

pub returns-clause-falls : goal.returns-clause-falls
returns-clause-falls c =
    inside_below c.args.stack.items c.push.new.self.items _ c.args.tail.now c.front-2.result.now c.in-Some.n (length c.args.layer.rest.now) c.args.state.budget c.in_ok-push.ensures.items c.front-2.ensures c.after.ensures c.requires (some_below c.in_ok-n.field-0 c.in-Some.n (length c.args.tail.now) c.in_ok-n.ensures.within c.in-Some.is)
