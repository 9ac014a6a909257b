use Rattle.syntax_tree.specs.Typed.{argument_of}
use Rattle.syntax_reader.specs.Views.{source_of}
use Rattle.syntax_reader.proofs.Rows.{argument_more, arguments_done, arguments_start}
use Rattle.syntax_reader.proofs.flow.other_arguments.Goals as goal

pub loop-k-init : goal.loop-k-init
loop-k-init c = arguments_start argument_of (source_of c.args.reader.now) c.args.begun c.args.first c.new-found.result.items c.push.new.self.items c.new-found.ensures.items c.in_ok-push.ensures.items

pub loop-k-preserved : goal.loop-k-preserved
loop-k-preserved c = argument_more argument_of (source_of c.args.reader.now) c.args.begun c.loop-k.n c.in-Some.k c.in_ok-one.end (argument_of c.args.first) c.loop-k.found.items c.push-in-Some.new.self.items c.in_ok-one.one c.loop-k.invariant c.in-Some.ensures.is c.in_ok-one.ensures.is c.in_ok-one.ensures.after c.in_ok-push-2.ensures.items

pub returns-clause-is : goal.returns-clause-is
returns-clause-is c = arguments_done (source_of c.args.reader.now) _ _ _ _ _ c.loop-k.invariant c.in_ok-k.ensures.is
